-- Moments at which nothing stops a program and no breakpoint hits, found by the lines of the
-- breakpoints.
use Rattle.std.specs.Prelude.{◌≡◌, ℕ, zero, suc, ◌+◌, Bool, false, not, ◌||◌, if◌then◌else◌, List, Some}
use Rattle.std.specs.List.{list_all, list_any}
use Rattle.std.specs.Option.{option_map_or}
use Rattle.dp_break.specs.declared.breakpoint.Breakpoint.{Breakpoint}
use Rattle.dp_break.specs.Hits.{hits, is_of_function}
use Rattle.dp_tree.specs.declared.bundle.Bundle.{Bundle}
use Rattle.dp_state.specs.declared.moments.Moment.{Moment}
use Rattle.dp_state.specs.declared.state.State.{State}
use Rattle.dp_actions.specs.declared.signal.Signal.{Signal}
use Rattle.dp_meaning.specs.declared.writes.NumberedWrite.{NumberedWrite}
use Rattle.dp_meaning.specs.Trace.{Trace, moment_at, program_trace}
use Rattle.dp_analysis.specs.Quiet.{is_free}
use Rattle.dp_step.specs.declared.machine.Machine.{Machine}
use Rattle.dp_step.specs.declared.machine.Progress.{Progress}
use Rattle.dp_step.specs.Stands.{GoesOn, steps_of}

-- a breakpoint is disabled, on a function where calls are not passed, or on one of these lines
abbrev pub is_covered : List ℕ → Bool → Breakpoint → Bool
is_covered lines calls b =
    not b.enabled
    || (if is_of_function b.kind then not calls
    else option_map_or (λ line. not (is_free lines line)) b.line false)

abbrev pub are_covered : List ℕ → Bool → List Breakpoint → Bool
are_covered lines calls held = list_all (is_covered lines calls) held

abbrev pub IsUnseen : (Moment → Bool) → Bundle → List Breakpoint → Moment × State → Type 0
IsUnseen mode bundle held at = (mode at.0 ≡ false) × (list_any (hits bundle at) held ≡ false)

-- so many moments past n are such
abbrev pub AreUnseen : (Moment → Bool) → Bundle → List Breakpoint → Trace Signal → ℕ → ℕ → Type 0
AreUnseen mode bundle held t n zero = Unit {0}
AreUnseen mode bundle held t n (suc k) =
    ((at : Moment × State) × (moment_at t (suc n) ≡ Some at) × IsUnseen mode bundle held at)
    × AreUnseen mode bundle held t (suc n) k

-- from the moment n it comes past some of them to what a step answers from the last of these; each
-- moment is a step
pub record GoesUnseen
    (mode : Moment → Bool) (bundle : Bundle) (bound : ℕ) (writes : List NumberedWrite)
    (held : List Breakpoint) (n : ℕ) (came : Progress) (m : Machine) (begun steps : ℕ)
    : Type 0 where
  pub over : ℕ
  pub unseen : AreUnseen mode bundle held (program_trace bundle bound writes) n over
  pub goes_on : GoesOn bundle bound writes (n + over) came m
  pub counted : steps ≡ begun + over + steps_of came
