-- Where a command stops a program that goes on: DBGp 1.0, "Continuation Commands".
use Rattle.std.specs.Prelude.{ℕ, nat_le, nat_lt, Bool, true, false, ◌&&◌, Option}
use Rattle.std.specs.Option.{option_map_or}
use Rattle.dp_command.specs.declared.command.Continuation.{Continuation}
use Rattle.dp_command.specs.declared.command.Continuation.TheVariants.{Run, StepInto, StepOver, StepOut}
use Rattle.dp_state.specs.declared.moments.Moment.{Moment}
use Rattle.dp_state.specs.declared.moments.MomentKind.{MomentKind}
use Rattle.dp_state.specs.declared.moments.MomentKind.TheVariants.{Place, Enter, Leave}
use Rattle.dp_state.specs.declared.state.State.{State}

abbrev pub is_place : MomentKind → Bool
is_place Place = true
is_place Enter = false
is_place Leave = false

-- A command that goes on from this depth stops at a moment: `step_into` at a place, `step_over` at
-- one that is not deeper, `step_out` at one that is less deep, and `run` at none.
abbrev pub stops : Continuation → ℕ → Moment → Bool
stops Run depth moment = false
stops StepInto depth moment = is_place moment.kind
stops StepOver depth moment = is_place moment.kind && nat_le moment.depth depth
stops StepOut depth moment = is_place moment.kind && nat_lt moment.depth depth

-- the depth at the moment of a number; 1 before the first
abbrev pub depth_of : Option (Moment × State) → ℕ
depth_of moment = option_map_or (λ m. m.0.depth) moment 1
