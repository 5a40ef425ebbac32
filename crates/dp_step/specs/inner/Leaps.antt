-- A machine that nothing stops: what it has to do, up to its end.
use Rattle.std.specs.Prelude.{◌≡◌, Option, Some, None, Result}
use Rattle.dp_state.specs.declared.moments.Outcome.{Outcome}
use Rattle.dp_state.specs.declared.state.State.{State}
use Rattle.dp_actions.specs.declared.halt.Halt.{Halt}
use Rattle.dp_actions.specs.declared.signal.Signal.{Signal}
use Rattle.dp_actions.specs.Run.{Run, ◌>>=◌}
use Rattle.dp_actions.specs.Setting.{Part}
use Rattle.dp_meaning.specs.declared.stop.Stop.TheVariants as stop
use Rattle.dp_meaning.specs.declared.whole.Whole.{Whole}
use Rattle.dp_meaning.specs.inner.Drive.{Reached, drive, only_bounded, stopped}
use Rattle.dp_meaning.specs.Whole.{RunsWhole}
use Rattle.dp_step.specs.declared.machine.Machine.{Machine}
use Rattle.dp_step.specs.inner.Moves.{follows_of, setting_at}
use Rattle.dp_step.specs.Stands.{rest_of}
use Rattle.dp_small_steps.specs.Parts.{to_signal}

-- where this comes to, with no writes at its moments
abbrev pub driven : Machine → Run Signal → Reached Signal
driven m run = drive (only_bounded m.bound) run

-- it has come to its end
abbrev pub RunsOut : Machine → Run Signal → Outcome → Machine → Type 0
RunsOut old run outcome new = stopped (driven old run) ≡ stop.Ended outcome new.state

-- it is on its way: what is to be done comes to the same
abbrev pub LeapsBy : Machine → Run Signal → Option Outcome → Machine → Type 0
LeapsBy old run None new = driven old run ≡ driven new (rest_of new new.state)
LeapsBy old run (Some outcome) new = RunsOut old run outcome new

pub record Leaps (old : Machine) (run : Run Signal) (end : Option Outcome) (new : Machine)
    : Type 0 where
  pub by : LeapsBy old run end new
  pub same_bound : new.bound ≡ old.bound

-- what parts are run by whole
abbrev pub whole_of : Machine → Whole
whole_of m =
    record { bundle = m.bundle; alloc = m.alloc; bound = m.bound; depth = m.depth }

-- this part of its program was in hand, and has run whole, from a state to that of the machine
pub record HasRun (m : Machine) (part : Part Signal) (done : Result Signal Halt) (s : State)
    : Type 0 where
  pub by : RunsWhole (whole_of m) part done s m.state

-- what a part does, and then what waits for it
abbrev pub part_with : Machine → Part Signal → State → Run Signal
part_with m part s = part (setting_at m) s >>= to_signal (follows_of m)
