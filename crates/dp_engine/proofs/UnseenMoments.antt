-- Moments at which nobody looks change no breakpoint and stop no program.
use Rattle.std.proofs.Common.{◌≡◌, ℕ, zero, suc, ◌+◌, ◌≤◌, Bool, true, false, cond, not, if◌then◌else◌, ◌&&◌, ◌||◌, List, [], ◌∷◌, drop, length, Option, Some, None, refl, sym, ap, ◌∙◌, subst, arith}
use Rattle.std.proofs.lemmas.Bool.{and_parts, and_right}
use Rattle.std.proofs.lemmas.Bool.Decides.{nat_tests}
use Rattle.std.proofs.lemmas.Option.{slice_get_within}
use Rattle.std.specs.List.{list_any}
use Rattle.std.specs.Option.{option_map_or}
use Rattle.std.specs.Prelude.{◌==◌}
use Rattle.dp_break.specs.declared.breakpoint.Breakpoint.{Breakpoint}
use Rattle.dp_break.specs.Hits.{awaits, hits, is_met_by, is_named_by, is_of_function, is_place_of, is_true_in}
use Rattle.dp_break.specs.StopRule.{found, held_after, one_stops}
use Rattle.dp_break.specs.Tables.{Table}
use Rattle.dp_break.proofs.Settled.{no_hit-held, no_hit-stops}
use Rattle.dp_packet.specs.declared.packet.BreakKind.{BreakKind}
use Rattle.dp_packet.specs.declared.packet.BreakKind.TheVariants.{Line, Call, Return, Conditional}
use Rattle.dp_tree.specs.declared.bundle.Bundle.{Bundle}
use Rattle.dp_state.specs.declared.moments.Moment.{Moment}
use Rattle.dp_state.specs.declared.moments.MomentKind.{MomentKind}
use Rattle.dp_state.specs.declared.moments.MomentKind.TheVariants as moment
use Rattle.dp_state.specs.declared.state.State.{State}
use Rattle.dp_actions.specs.declared.signal.Signal.{Signal}
use Rattle.dp_meaning.specs.declared.writes.NumberedWrite.{NumberedWrite}
use Rattle.dp_meaning.specs.Trace.{Trace, program_trace}
use Rattle.dp_analysis.specs.Quiet.{AreLoud, is_free}
use Rattle.dp_meaning.specs.Unwatched.{is_unwatched}
use Rattle.dp_step.specs.declared.machine.Machine.{Machine}
use Rattle.dp_step.specs.declared.machine.Progress.{Progress}
use Rattle.dp_step.specs.Past.{ArePassed, GoesPast, IsPassed}
use Rattle.dp_step.specs.Stands.{GoesOn, StandsFor, steps_of}
use Rattle.dp_engine.specs.inner.Unseen.{AreUnseen, GoesUnseen, are_covered, is_covered}
use Rattle.dp_engine.proofs.Lists.{drop-at}
use Rattle.dp_engine.proofs.MachineStops.{IsOnWay, IsPast, within_run}

-- ---- breakpoints that are on some lines

module _ (lines : List ℕ) (calls : Bool) where
  apart : (given line : ℕ) → not (is_free lines given) ≡ true → is_free lines line ≡ true → (b : Bool)
      → (given == line) ≡ b → b ≡ false
  apart given line on free true is =
      let same : given ≡ line = grind (arith, nat_tests) in
      let off : not (is_free lines line) ≡ true = ap (λ (n : ℕ). not (is_free lines n)) (sym same) ∙ on in
      let no : not true ≡ true = ap not (sym free) ∙ off in absurd (cc)
  apart given line on free false is = refl

  on-line : (line : Option ℕ) (at : ℕ) → option_map_or (λ l. not (is_free lines l)) line false ≡ true
      → is_free lines at ≡ true → is_met_by line at ≡ false
  on-line None at covered free = absurd (cc)
  on-line (Some given) at covered free = apart given at covered free (given == at) refl

  on-function : calls ≡ true → not calls ≡ true → ⊥
  on-function passed watched = let no : not true ≡ true = ap not (sym passed) ∙ watched in cc

  off-place : (kind : BreakKind) (moment : MomentKind) (file function : Bool) (line : Option ℕ) (at : ℕ)
      → (if is_of_function kind then not calls else option_map_or (λ l. not (is_free lines l)) line false) ≡ true
      → is_unwatched lines calls moment at ≡ true
      → (awaits kind moment && file && (if is_of_function kind then function else is_met_by line at)) ≡ false
  off-place Line moment.Place file function line at covered free = and_right file _ (on-line line at covered free)
  off-place Line moment.Enter file function line at covered free = refl
  off-place Line moment.Leave file function line at covered free = refl
  off-place Call moment.Place file function line at covered free = refl
  off-place Call moment.Enter file function line at covered free = absurd (on-function free covered)
  off-place Call moment.Leave file function line at covered free = refl
  off-place Return moment.Place file function line at covered free = refl
  off-place Return moment.Enter file function line at covered free = refl
  off-place Return moment.Leave file function line at covered free = absurd (on-function free covered)
  off-place Conditional moment.Place file function line at covered free =
      and_right file _ (on-line line at covered free)
  off-place Conditional moment.Enter file function line at covered free = refl
  off-place Conditional moment.Leave file function line at covered free = refl

  no-hit : (enabled place holds : Bool) → place ≡ false → (enabled && place && holds) ≡ false
  no-hit true place holds e = rw e refl
  no-hit false place holds e = refl

  unhit : (bundle : Bundle) (at : Moment × State) (b : Breakpoint) → IsPassed lines calls at.0
      → is_covered lines calls b ≡ true
      → hits bundle at b ≡ false
  unhit bundle at b passed covered = cases b.enabled refl
    where
      cases : (enabled : Bool) → b.enabled ≡ enabled → hits bundle at b ≡ false
      cases false is = rw is refl
      cases true is =
          let covered : (if is_of_function b.kind then not calls
          else option_map_or (λ l. not (is_free lines l)) b.line false) ≡ true =
          sym (ap (λ e. not e || (if is_of_function b.kind then not calls
          else option_map_or (λ l. not (is_free lines l)) b.line false)) is) ∙ covered in
          let off : is_place_of b at.0 ≡ false =
          off-place b.kind at.0.kind (is_met_by b.file at.0.file) (is_named_by b.function at.0.function) b.line
          at.0.line covered passed in
          no-hit b.enabled (is_place_of b at.0) (option_map_or (λ e. is_true_in bundle e at.1) b.parsed true) off

  none-hits : (bundle : Bundle) (at : Moment × State) (held : List Breakpoint) → IsPassed lines calls at.0
      → are_covered lines calls held ≡ true → list_any (hits bundle at) held ≡ false
  none-hits bundle at [] passed covered = refl
  none-hits bundle at (b ∷ held) passed covered =
      let parts = and_parts (is_covered lines calls b) (are_covered lines calls held) covered in
      ap (λ (t : Bool). t || list_any (hits bundle at) held) (unhit bundle at b passed parts.0)
      ∙ none-hits bundle at held passed parts.1

  unseen : (mode : Moment → Bool) → ((moment : Moment) → mode moment ≡ false) → (bundle : Bundle)
      (held : List Breakpoint) → are_covered lines calls held ≡ true → (t : Trace Signal) (k n : ℕ)
      → ArePassed lines calls t n k
      → AreUnseen mode bundle held t n k
  unseen mode off bundle held covered t zero n passed = tt
  unseen mode off bundle held covered t (suc k) n passed = (
    (
      passed.0.0,
      passed.0.1,
      (off passed.0.0.0, none-hits bundle passed.0.0 held passed.0.2 covered),
    ),
    unseen mode off bundle held covered t k (suc n) passed.1,
  )

  pub goes-unseen : (mode : Moment → Bool) → ((moment : Moment) → mode moment ≡ false) → (bundle : Bundle) (bound : ℕ)
      (writes : List NumberedWrite) (held : List Breakpoint) → are_covered lines calls held ≡ true
      → (n : ℕ) (came : Progress)
      (m : Machine) (begun steps : ℕ) → GoesPast lines calls bundle bound writes n came m begun steps
      → GoesUnseen mode bundle bound writes held n came m begun steps
  goes-unseen mode off bundle bound writes held covered n came m begun steps goes = record {
    over = goes.over;
    unseen = unseen mode off bundle held covered (program_trace bundle bound writes) goes.over n goes.passed;
    goes_on = goes.goes_on;
    counted = goes.counted;
  }

-- the names of loud functions that are held are those of the program, where they were looked for in that of the machine
pub look-on : (bundle : Bundle) (bound : ℕ) (writes : List NumberedWrite) (n : ℕ) (m : Machine) (lines : List ℕ)
    (old new : Option (List (List ℕ))) → StandsFor bundle bound writes n m → AreLoud lines bundle old
    → (AreLoud lines m.bundle.now old → AreLoud lines m.bundle.now new) → AreLoud lines bundle new
look-on bundle bound writes n m lines old new stands before look =
    subst (λ (b : Bundle). AreLoud lines b new) stands.same_bundle
    (look (subst (λ (b : Bundle). AreLoud lines b old) (sym stands.same_bundle) before))

-- a step passes none
pub steps-unseen : (mode : Moment → Bool) (bundle : Bundle) (bound : ℕ) (writes : List NumberedWrite)
    (held : List Breakpoint) (n : ℕ) (came : Progress) (m : Machine) (begun steps : ℕ)
    → GoesOn bundle bound writes n came m → steps ≡ begun + steps_of came
    → GoesUnseen mode bundle bound writes held n came m begun steps
steps-unseen mode bundle bound writes held n came m begun steps goes counted =
    let e : n ≡ n + 0 = omega arith in record {
      over = 0;
      unseen = tt;
      goes_on = subst (λ k. GoesOn bundle bound writes k came m) e goes;
      counted = omega (arith, counted);
    }

-- ---- all of them

module _ (mode : Moment → Bool) (bundle : Bundle) (bound : ℕ) (writes : List NumberedWrite) where
  abbrev whole : Trace Signal
  whole = program_trace bundle bound writes

  pub found-over : (held : List Breakpoint) (k n : ℕ) → AreUnseen mode bundle held whole n k
      → found mode bundle held n (drop n whole.moments) ≡ found mode bundle held (n + k) (drop (n + k) whole.moments)
  found-over held zero n unseen =
      let e : n ≡ n + 0 = omega arith in
      ap (λ (m : ℕ). found mode bundle held m (drop m whole.moments)) e
  found-over held (suc k) n unseen =
      let at = unseen.0.0 in
      let next : n + 1 ≡ suc n = omega arith in
      let e : suc n + k ≡ n + suc k = omega arith in
      ap (found mode bundle held n) (drop-at n whole.moments at unseen.0.1)
      ∙ ap (λ (b : Bool). cond (b || one_stops bundle held [] at) (Some (n + 1), held_after bundle (at ∷ []) held)
      (found mode bundle (held_after bundle (at ∷ []) held) (n + 1) (drop (suc n) whole.moments))) unseen.0.2.0
      ∙ ap (λ (b : Bool). cond b (Some (n + 1), held_after bundle (at ∷ []) held)
      (found mode bundle (held_after bundle (at ∷ []) held) (n + 1) (drop (suc n) whole.moments)))
      (no_hit-stops bundle at held unseen.0.2.1)
      ∙ ap (λ (l : List Breakpoint). found mode bundle l (n + 1) (drop (suc n) whole.moments))
      (no_hit-held bundle at held unseen.0.2.1)
      ∙ ap (λ (m : ℕ). found mode bundle held m (drop (suc n) whole.moments)) next
      ∙ found-over held k (suc n) unseen.1
      ∙ ap (λ (m : ℕ). found mode bundle held m (drop m whole.moments)) e

  pub within : (held : List Breakpoint) (k n : ℕ) → n ≤ length whole.moments → AreUnseen mode bundle held whole n k
      → n + k ≤ length whole.moments
  within held zero n h unseen = omega (arith, h)
  within held (suc k) n h unseen =
      let long = slice_get_within whole.moments n unseen.0.0 unseen.0.1 in
      let next : suc n ≤ length whole.moments = omega (arith, long) in
      let more = within held k (suc n) next unseen.1 in omega (arith, more)

  module _ (n : ℕ) (before table : Table) (old : Machine) (begun steps : ℕ)
      (way : IsOnWay mode bundle bound writes n before table old begun steps) where
    unfoldable pub past-by : (came : Progress) (new : Machine) (after : ℕ)
        (goes : GoesUnseen mode bundle bound writes table.held way.at came new steps after)
        → IsPast mode bundle bound writes n before table begun (steps + goes.over)
    past-by came new after goes = record {
      at = way.at + goes.over;
      within = within table.held goes.over way.at (within_run bundle bound writes way.at old way.stands) goes.unseen;
      next = way.next;
      found = way.found ∙ found-over table.held goes.over way.at goes.unseen;
      counted = let h = way.counted in omega (arith, h);
    }
