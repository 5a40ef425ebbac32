-- Where no breakpoint is enabled, and the command stops at no moment, a program goes on to its end, and the breakpoints
-- stay as they are.
use Rattle.std.proofs.Common.{◌≡◌, ℕ, ◌+◌, Bool, false, cond, ◌||◌, List, [], ◌∷◌, drop, length, Option, Some, None, refl, sym, ap, ◌∙◌, subst}
use Rattle.std.proofs.lemmas.Bool.{or_parts}
use Rattle.std.specs.List.{list_any}
use Rattle.dp_break.specs.declared.breakpoint.Breakpoint.{Breakpoint}
use Rattle.dp_break.specs.Hits.{hits}
use Rattle.dp_break.specs.StopRule.{Moments, found, held_after}
use Rattle.dp_break.specs.Tables.{Table}
use Rattle.dp_break.proofs.CountLaws.{found-held, found-stop}
use Rattle.dp_break.proofs.Settled.{no_hit-held, no_hit-stops}
use Rattle.dp_tree.specs.declared.bundle.Bundle.{Bundle}
use Rattle.dp_state.specs.declared.moments.Moment.{Moment}
use Rattle.dp_state.specs.declared.moments.Outcome.{Outcome}
use Rattle.dp_state.specs.declared.state.State.{State}
use Rattle.dp_state.specs.States.{IsOf}
use Rattle.dp_meaning.specs.declared.writes.NumberedWrite.{NumberedWrite}
use Rattle.dp_meaning.specs.Trace.{outcome, program_trace}
use Rattle.dp_meaning_laws.proofs.Whole.{end-can}
use Rattle.dp_step.specs.declared.machine.Machine.{Machine}
use Rattle.dp_engine.specs.declared.reached.Reached.TheVariants.{End}
use Rattle.dp_engine.specs.NextStop.{GoesOnTo}

module _ (bundle : Bundle) where
  -- none hits of which none is enabled
  none-hits : (held : List Breakpoint) → list_any (λ b. b.enabled) held ≡ false → (at : Moment × State)
      → list_any (hits bundle at) held ≡ false
  none-hits [] off at = refl
  none-hits (b ∷ held) off at =
      let parts = or_parts b.enabled (list_any (λ b. b.enabled) held) off in
      let unhit : hits bundle at b ≡ false = rw parts.0 refl in
      ap (λ (t : Bool). t || list_any (hits bundle at) held) unhit ∙ none-hits held parts.1 at

  -- nothing is found, and the breakpoints stay
  module _ (mode : Moment → Bool) (off : (moment : Moment) → mode moment ≡ false) (held : List Breakpoint)
      (none : list_any (λ b. b.enabled) held ≡ false) where
    found-free : (n : ℕ) (moments : Moments) → found mode bundle held n moments ≡ (None, held)
    found-free n [] = refl
    found-free n (at ∷ later) =
        let unhit = none-hits held none at in
        (λ i. cond (off at.0 i || no_hit-stops bundle at held unhit i) (Some (n + 1), held_after bundle (at ∷ []) held)
        (found mode bundle (no_hit-held bundle at held unhit i) (n + 1) later))
        ∙ found-free (n + 1) later

module _ (mode : Moment → Bool) (off : (moment : Moment) → mode moment ≡ false) (bundle : Bundle) (bound : ℕ)
    (writes : List NumberedWrite) where
  abbrev past : ℕ → Moments
  past n = drop n (program_trace bundle bound writes).moments

  module _ (t : Table) (none : list_any (λ b. b.enabled) t.held ≡ false) (n : ℕ) where
    all-free : found mode bundle t.held n (past n) ≡ (None, t.held)
    all-free = found-free bundle mode off t.held none n (past n)

    pub goes-free : (end : Outcome) (machine : Machine) (begun steps : ℕ)
        → (end ≡ outcome bundle bound writes) × (machine.state ≡ (program_trace bundle bound writes).state)
        → steps + n ≡ begun + length (program_trace bundle bound writes).moments
        → GoesOnTo mode bundle bound writes t t n (End end) machine begun steps
    goes-free end machine begun steps ends counted = record {
      reached = (
        sym (found-stop bundle mode t.held n (past n))
            ∙ ap (λ (f : Option ℕ × List Breakpoint). f.0) all-free,
        ends.0,
        ends.1,
      );
      breaks = ap (λ (l : List Breakpoint). record t { held = l })
          (sym (ap (λ (f : Option ℕ × List Breakpoint). f.1) all-free) ∙ found-held bundle mode t.held n (past n));
      of = λ some. subst (IsOf bundle) (sym ends.1) (end-can bundle bound writes some).0;
      counted = counted;
    }
