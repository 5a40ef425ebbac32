-- A stop is a moment of the program, and whether it is the very next one.
use Rattle.std.proofs.Common.{◌≡◌, ℕ, zero, suc, ◌+◌, ◌<◌, ◌≤◌, subst, Bool, true, false, cond, ◌||◌, List, [], ◌∷◌, ◌++◌, drop, Option, Some, None, refl, sym, ap, ◌∙◌, arith}
use Rattle.std.proofs.lemmas.Bool.Decides.{nat_tests}
use Rattle.std.specs.Option.{option_map_or}
use Rattle.std.specs.Prelude.{◌==◌, slice_get}
use Rattle.std.specs.List.{position_from}
use Rattle.dp_break.specs.declared.breakpoint.Breakpoint.{Breakpoint}
use Rattle.dp_break.specs.StopRule.{Moments, Reached, each_from, found, held_after, one_stops, reached, stop_above}
use Rattle.dp_break.proofs.CountLaws.{found-stop}
use Rattle.dp_state.specs.declared.moments.Moment.{Moment}
use Rattle.dp_state.specs.declared.state.State.{State}
use Rattle.dp_tree.specs.declared.bundle.Bundle.{Bundle}
use Rattle.dp_engine.proofs.Lists.{drop-at}

-- a first element that passes is there
place_is_there : {A : Type 0} (test : Reached A → Bool) (i : ℕ) (past xs : List A) (j : ℕ)
    → position_from test i (each_from past xs) ≡ Some j
    → (d : ℕ) × (x : A) × (j ≡ i + d) × (slice_get xs d ≡ Some x)
place_is_there test i past [] j e = absurd cc
place_is_there {A} test i past (x ∷ xs) j e =
    cases (test (reached past x)) e (place_is_there test (i + 1) (past ++ x ∷ []) xs j) where
      cases : (b : Bool) → cond b (Some i) (position_from test (i + 1) (each_from (past ++ x ∷ []) xs)) ≡ Some j
          → (position_from test (i + 1) (each_from (past ++ x ∷ []) xs) ≡ Some j
          → (d : ℕ) × (y : A) × (j ≡ i + 1 + d) × (slice_get xs d ≡ Some y))
          → (d : ℕ) × (y : A) × (j ≡ i + d) × (slice_get (x ∷ xs) d ≡ Some y)
      cases true e later = let same : i ≡ j = cc in (0, x, omega arith, refl)
      cases false e later = let there = later e in (suc there.0, there.1, omega (arith, there.2), there.3)

slice_get_drop : {A : Type 0} (n : ℕ) (xs : List A) (d : ℕ) (x : A) → slice_get (drop n xs) d ≡ Some x
    → slice_get xs (n + d) ≡ Some x
slice_get_drop zero xs d x e = let same : d ≡ 0 + d = omega arith in subst (λ (k : ℕ). slice_get xs k ≡ Some x) same e
slice_get_drop {A} (suc n) [] d x e = absurd (nothing d e) where
  nothing : (k : ℕ) → slice_get [] k ≡ Some x → ⊥
  nothing zero f = cc
  nothing (suc k) f = cc
slice_get_drop (suc n) (y ∷ ys) d x e =
    let same : suc (n + d) ≡ suc n + d = omega arith in subst (λ (k : ℕ). slice_get (y ∷ ys) k ≡ Some x) same
    (slice_get_drop n ys d x e)

-- a stop is a moment past n, counted from 1
pub stop_is_there : (mode : Moment → Bool) (bundle : Bundle) (held : List Breakpoint) (n : ℕ) (moments : Moments)
    (stop : ℕ) → stop_above mode bundle held n moments ≡ Some stop
    → (k : ℕ) × (at : Moment × State) × (stop ≡ k + 1) × (n ≤ k) × (slice_get moments k ≡ Some at)
stop_is_there mode bundle held n moments stop e =
    let there = place_is_there _ (n + 1) [] (drop n moments) stop e in
    (n + there.0, there.1, omega (arith, there.2), omega arith, slice_get_drop n moments there.0 there.1 there.3)

-- ---- the very next moment

same_number : (n : ℕ) → (n + 1 == n + 1) ≡ true
same_number n = grind (arith, nat_tests)

later_number : (stop n : ℕ) → n + 1 < stop → (stop == n + 1) ≡ false
later_number stop n later = grind (arith, nat_tests)

module _ (mode : Moment → Bool) (bundle : Bundle) (n : ℕ) (moments : Moments) (held : List Breakpoint)
    (at : Moment × State) (is : slice_get moments n ≡ Some at) where
  abbrev left : List Breakpoint
  left = held_after bundle (at ∷ []) held

  abbrev here : Bool
  here = mode at.0 || one_stops bundle held [] at

  -- what is found past n is there, or past that
  pub found_next : found mode bundle held n (drop n moments)
      ≡ cond here (Some (n + 1), left) (found mode bundle left (n + 1) (drop (n + 1) moments))
  found_next =
      let more : suc n ≡ n + 1 = omega arith in
      ap (found mode bundle held n) (drop-at n moments at is)
      ∙ ap (λ (k : ℕ). cond here (Some (n + 1), left) (found mode bundle left (n + 1) (drop k moments))) more

  abbrev is_next : Option ℕ → Bool
  is_next stop = option_map_or (λ s. s == n + 1) stop false

  -- a stop past it is another
  stops_later : (stop : Option ℕ) → stop_above mode bundle left (n + 1) moments ≡ stop → is_next stop ≡ false
  stops_later None e = refl
  stops_later (Some stop) e =
      let there = stop_is_there mode bundle left (n + 1) moments stop e in
      let later : n + 1 < stop = omega (arith, there.2, there.3) in later_number stop n later

  -- the stop is the first that is found
  pub stop_is : (b : Bool) → b ≡ here → stop_above mode bundle held n moments
      ≡ (cond b (Some (n + 1), left) (found mode bundle left (n + 1) (drop (n + 1) moments))).0
  stop_is b e =
      sym (found-stop bundle mode held n (drop n moments))
      ∙ ap (λ (f : Option ℕ × List Breakpoint). f.0) (found_next
      ∙ ap (λ (c : Bool). cond c (Some (n + 1), left) (found mode bundle left (n + 1) (drop (n + 1) moments))) (sym e))

  -- it is the stop where the mode or a breakpoint stops there
  pub next_stop : (b : Bool) → b ≡ here → b ≡ is_next (stop_above mode bundle held n moments)
  next_stop true e = sym (ap is_next (stop_is true e) ∙ same_number n)
  next_stop false e =
      sym (ap is_next (stop_is false e ∙ found-stop bundle mode left (n + 1) (drop (n + 1) moments))
      ∙ stops_later _ refl)
