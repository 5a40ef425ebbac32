-- A machine that goes past moments at which nobody looks: they stand before a statement, a test or
-- a binding, on lines that are not watched, or where functions are entered and left, if nobody
-- looks at calls.
use Rattle.std.specs.Prelude.{◌≡◌, ℕ, zero, suc, ◌+◌, Bool, true, List, Some}
use Rattle.dp_tree.specs.declared.bundle.Bundle.{Bundle}
use Rattle.dp_state.specs.declared.moments.Moment.{Moment}
use Rattle.dp_state.specs.declared.state.State.{State}
use Rattle.dp_actions.specs.declared.signal.Signal.{Signal}
use Rattle.dp_meaning.specs.declared.writes.NumberedWrite.{NumberedWrite}
use Rattle.dp_meaning.specs.Trace.{Trace, moment_at, program_trace}
use Rattle.dp_meaning.specs.Unwatched.{is_unwatched}
use Rattle.dp_step.specs.declared.machine.Machine.{Machine}
use Rattle.dp_step.specs.declared.machine.Progress.{Progress}
use Rattle.dp_step.specs.Stands.{GoesOn, steps_of}

abbrev pub IsPassed : List ℕ → Bool → Moment → Type 0
IsPassed lines calls moment = is_unwatched lines calls moment.kind moment.line ≡ true

-- so many moments past n are such
abbrev pub ArePassed : List ℕ → Bool → Trace Signal → ℕ → ℕ → Type 0
ArePassed lines calls t n zero = Unit {0}
ArePassed lines calls t n (suc k) =
    ((at : Moment × State) × (moment_at t (suc n) ≡ Some at) × IsPassed lines calls at.0)
    × ArePassed lines calls t (suc n) k

-- from the moment n it comes past some of them to what a step answers from the last of these; each
-- moment is a step
pub record GoesPast
    (lines : List ℕ) (calls : Bool) (bundle : Bundle) (bound : ℕ) (writes : List NumberedWrite)
    (n : ℕ) (came : Progress) (m : Machine) (begun steps : ℕ) : Type 0 where
  pub over : ℕ
  pub passed : ArePassed lines calls (program_trace bundle bound writes) n over
  pub goes_on : GoesOn bundle bound writes (n + over) came m
  pub counted : steps ≡ begun + over + steps_of came
