-- Where a program comes to that goes on past a moment, and what is held of breakpoints then. The
-- mode is the test by which the command stops.
use Rattle.std.specs.Prelude.{◌≡◌, ◌==◌, ◌+◌, ◌<◌, ℕ, Bool, true, false, List, length, Option, Some, None}
use Rattle.std.specs.Option.{option_map_or}
use Rattle.dp_break.specs.declared.breakpoint.Breakpoint.{Breakpoint}
use Rattle.dp_break.specs.StopRule.{held_after, passed, stop_above}
use Rattle.dp_break.specs.Tables.{Table}
use Rattle.dp_tree.specs.declared.bundle.Bundle.{Bundle}
use Rattle.dp_meaning.specs.declared.writes.NumberedWrite.{NumberedWrite}
use Rattle.dp_meaning.specs.Trace.{moment_at, outcome, program_trace}
use Rattle.dp_state.specs.declared.moments.Moment.{Moment}
use Rattle.dp_state.specs.States.{IsOf}
use Rattle.dp_step.specs.declared.machine.Machine.{Machine}
use Rattle.dp_step.specs.Stands.{StandsFor}
use Rattle.dp_engine.specs.declared.reached.Passed.{Passed}
use Rattle.dp_engine.specs.declared.reached.Reached.{Reached}
use Rattle.dp_engine.specs.declared.reached.Reached.TheVariants as reached
use Rattle.dp_engine.specs.Stops.{depth_of}

-- the moment past n at which it stops, if it stops
abbrev pub stop_past : (Moment → Bool) → Bundle → ℕ → List NumberedWrite → List Breakpoint → ℕ
    → Option ℕ
stop_past mode bundle bound writes held n =
    stop_above mode bundle held n (program_trace bundle bound writes).moments

-- the breakpoints with the hits of the moments up to there, or to the end
abbrev pub table_past : (Moment → Bool) → Bundle → ℕ → List NumberedWrite → Table → ℕ → Table
table_past mode bundle bound writes t n =
    let stop = stop_past mode bundle bound writes t.held n in
    record t {
      held = held_after bundle (passed n stop (program_trace bundle bound writes).moments)
          t.held;
    }

-- where a machine has come to that stops at this moment, or at none
abbrev pub Reaches : Bundle → ℕ → List NumberedWrite → Option ℕ → Reached → Machine → Type 0
Reaches bundle bound writes stop (reached.Moment number depth) machine =
    (stop ≡ Some number)
    × StandsFor bundle bound writes number machine
    × (depth ≡ depth_of (moment_at (program_trace bundle bound writes) number))
Reaches bundle bound writes stop (reached.End end) machine =
    (stop ≡ None)
    × (end ≡ outcome bundle bound writes)
    × (machine.state ≡ (program_trace bundle bound writes).state)

-- the number of that moment, or of the last one
abbrev pub reached_moment : Bundle → ℕ → List NumberedWrite → Reached → ℕ
reached_moment bundle bound writes (reached.Moment number depth) = number
reached_moment bundle bound writes (reached.End end) =
    length (program_trace bundle bound writes).moments

-- A machine has gone on past n to where the command or a breakpoint stops, or to the end, and the
-- breakpoints have the hits on the way. So many steps were counted before and after: one for each
-- moment.
pub record GoesOnTo (mode : Moment → Bool) (bundle : Bundle) (bound : ℕ)
    (writes : List NumberedWrite) (before after : Table) (n : ℕ) (came : Reached)
    (machine : Machine) (begun steps : ℕ) : Type 0 where
  pub reached : Reaches bundle bound writes (stop_past mode bundle bound writes before.held n) came
      machine
  pub breaks : after ≡ table_past mode bundle bound writes before n
  pub of : 0 < length bundle.files → IsOf bundle machine.state
  pub counted : steps + n ≡ begun + reached_moment bundle bound writes came

-- ---- one moment

-- a test that holds at each moment
abbrev pub every : Moment → Bool
every moment = true

-- whether it stops at the very next moment past n
abbrev pub stops_next : (Moment → Bool) → Bundle → ℕ → List NumberedWrite → List Breakpoint → ℕ
    → Bool
stops_next mode bundle bound writes held n =
    option_map_or (λ stop. stop == n + 1) (stop_past mode bundle bound writes held n) false

-- A machine has passed one moment past n, or has come to the end: that moment is the stop of the
-- test that holds at each.
pub record PassesOne (mode : Moment → Bool) (bundle : Bundle) (bound : ℕ)
    (writes : List NumberedWrite) (before after : Table) (n : ℕ) (passed : Passed)
    (machine : Machine) (begun steps : ℕ) : Type 0 where
  pub goes : GoesOnTo every bundle bound writes before after n passed.reached machine begun steps
  pub stops : passed.stops ≡ stops_next mode bundle bound writes before.held n
