-- Counting moments one after another is counting their list.
use Rattle.std.proofs.Common.{◌≡◌, ℕ, suc, ◌+◌, ◌-◌, ◌≤◌, min, Bool, true, false, cond, not, ◌&&◌, ◌||◌, List, [], ◌∷◌, ◌++◌, drop, take, map, Option, Some, None, refl, sym, ap, ◌∙◌, append_assoc, append-nil, arith}
use Rattle.std.specs.Prelude.{filter, count_by}
use Rattle.std.specs.List.{list_any, position_from}
use Rattle.std.proofs.lemmas.List.Sums.{sum_by-append}
use Rattle.dp_tree.specs.declared.bundle.Bundle.{Bundle}
use Rattle.dp_state.specs.declared.moments.Moment.{Moment}
use Rattle.dp_state.specs.declared.state.State.{State}
use Rattle.dp_break.specs.declared.breakpoint.Breakpoint.{Breakpoint}
use Rattle.dp_break.specs.Hits.{hits, is_enough}
use Rattle.dp_break.specs.StopRule.{Moments, Reached, after, each_from, found, held_after, is_there_after, most_hits, one_stops, reached, stop_above, stops_at, up_to, with_more}

-- ---- filters and tests, one behind another

-- what is kept, changed, kept and changed again
kept_twice : {B : Type 0} (f first second : B → B) (p early late : B → Bool) → ((b : B) → f b ≡ second (first b))
    → ((b : B) → p b ≡ (early b && late (first b)))
    → (bs : List B) → map f (filter p bs) ≡ map second (filter late (map first (filter early bs)))
kept_twice f first second p early late same tested [] = refl
kept_twice {B} f first second p early late same tested (b ∷ bs) =
    ap (λ (t : Bool). map f (cond t (b ∷ filter p bs) (filter p bs))) (tested b)
    ∙ cases (early b) (late (first b)) refl (kept_twice f first second p early late same tested bs) where
      cases : (e l : Bool) → late (first b) ≡ l
          → map f (filter p bs) ≡ map second (filter late (map first (filter early bs)))
          → map f (cond (e && l) (b ∷ filter p bs) (filter p bs)) ≡ map second
          (filter late (map first (cond e (b ∷ filter early bs) (filter early bs))))
      cases false l is more = more
      cases true false is more =
          more ∙ ap (λ (t : Bool). map second (cond t (first b ∷ filter late (map first (filter early bs)))
          (filter late (map first (filter early bs))))) (sym is)
      cases true true is more =
          (λ i. same b i ∷ more i)
          ∙ ap (λ (t : Bool). map second (cond t (first b ∷ filter late (map first (filter early bs)))
          (filter late (map first (filter early bs))))) (sym is)

-- one of those that are kept passes a test, after they were kept and changed once
passes_later : {B : Type 0} (first : B → B) (p early late test later : B → Bool)
    → ((b : B) → p b ≡ (early b && late (first b))) → ((b : B) → test b ≡ later (first b))
    → (bs : List B) → list_any (λ b. p b && test b) bs ≡ list_any (λ b. late b && later b) (map first (filter early bs))
passes_later first p early late test later tested same [] = refl
passes_later {B} first p early late test later tested same (b ∷ bs) =
    (λ i. (tested b i && same b i) || passes_later first p early late test later tested same bs i)
    ∙ cases (early b) where
      cases : (e : Bool) → ((e && late (first b)) && later (first b))
          || list_any (λ c. late c && later c) (map first (filter early bs))
          ≡ list_any (λ c. late c && later c) (map first (cond e (b ∷ filter early bs) (filter early bs)))
      cases false = refl
      cases true = refl

-- ---- pasts

or_assoc : (a b c : Bool) → (a || (b || c)) ≡ ((a || b) || c)
or_assoc true b c = refl
or_assoc false b c = refl

-- those with a past of a list joined of two
past-append : {A : Type 0} (test : Reached A → Bool) (earlier xs ys : List A)
    → list_any test (each_from earlier (xs ++ ys)) ≡ (list_any test (each_from earlier xs)
    || list_any test (each_from (earlier ++ xs) ys))
past-append test earlier [] ys = ap (λ l. list_any test (each_from l ys)) (sym (append-nil earlier))
past-append test earlier (x ∷ xs) ys =
    ap (λ (t : Bool). test (reached earlier x) || t) (past-append test (earlier ++ x ∷ []) xs ys)
    ∙ or_assoc (test (reached earlier x)) (list_any test (each_from (earlier ++ x ∷ []) xs))
    (list_any test (each_from ((earlier ++ x ∷ []) ++ xs) ys))
    ∙ ap (λ l. (test (reached earlier x) || list_any test (each_from (earlier ++ x ∷ []) xs))
    || list_any test (each_from l ys)) (append_assoc earlier (x ∷ []) xs)

-- two tests agree, of which the first sees a longer past
past_shifted : {A : Type 0} (test other : Reached A → Bool) (xs : List A)
    → ((earlier : List A) (x : A) → test (reached (xs ++ earlier) x) ≡ other (reached earlier x))
    → (earlier ys : List A) → list_any test (each_from (xs ++ earlier) ys) ≡ list_any other (each_from earlier ys)
past_shifted test other xs same earlier [] = refl
past_shifted test other xs same earlier (y ∷ ys) =
    (λ i. same earlier y i || list_any test (each_from (append_assoc xs earlier (y ∷ []) i) ys))
    ∙ ap (λ (t : Bool). other (reached earlier y) || t) (past_shifted test other xs same (earlier ++ y ∷ []) ys)

position_shifted : {A : Type 0} (test other : Reached A → Bool) (xs : List A)
    → ((earlier : List A) (x : A) → test (reached (xs ++ earlier) x) ≡ other (reached earlier x))
    → (k : ℕ) (earlier ys : List A)
    → position_from test k (each_from (xs ++ earlier) ys) ≡ position_from other k (each_from earlier ys)
position_shifted test other xs same k earlier [] = refl
position_shifted test other xs same k earlier (y ∷ ys) =
    (λ i. cond (same earlier y i) (Some k) (position_from test (k + 1)
    (each_from (append_assoc xs earlier (y ∷ []) i) ys)))
    ∙ ap (λ (o : Option ℕ). cond (other (reached earlier y)) (Some k) o)
    (position_shifted test other xs same (k + 1) (earlier ++ y ∷ []) ys)

-- a first place is not before the number of the first element
position_least : {A : Type 0} (test : A → Bool) (k : ℕ) (xs : List A) (j : ℕ) → position_from test k xs ≡ Some j → k ≤ j
position_least test k [] j e = absurd cc
position_least {A} test k (x ∷ xs) j e = cases (test x) e (λ f. position_least test (k + 1) xs j f) where
  cases : (t : Bool) → cond t (Some k) (position_from test (k + 1) xs) ≡ Some j
      → (position_from test (k + 1) xs ≡ Some j → k + 1 ≤ j) → k ≤ j
  cases true f past = let same : k ≡ j = cc in omega arith
  cases false f past = let far = past f in omega arith

or_false : (t : Bool) → (t || false) ≡ t
or_false true = refl
or_false false = refl

-- ---- breakpoints

with_more-add : (x y : ℕ) (b : Breakpoint) → with_more (x + y) b ≡ with_more y (with_more x b)
with_more-add x y b = ap (λ (h : ℕ). record b { hits = h }) (sums b.hits) where
  sums : (h : ℕ) → h + min (x + y) (most_hits - h) ≡ (h + min x (most_hits - h)) + min y
      (most_hits - (h + min x (most_hits - h)))
  sums h = omega arith

pub with_more-zero : (b : Breakpoint) → with_more 0 b ≡ b
with_more-zero b = ap (λ (h : ℕ). record b { hits = h }) (nothing b.hits) where
  nothing : (h : ℕ) → h + min 0 (most_hits - h) ≡ h
  nothing h = omega arith

module _ (bundle : Bundle) where
  after-append : (xs ys : Moments) (b : Breakpoint) → after bundle (xs ++ ys) b ≡ after bundle ys (after bundle xs b)
  after-append xs ys b =
      ap (λ (k : ℕ). with_more k b) (sum_by-append (λ at. cond (hits bundle at b) 1 0) xs ys)
      ∙ with_more-add (count_by (λ at. hits bundle at b) xs) (count_by (λ at. hits bundle at b) ys) b

  -- a stop is the same where the moments before were counted
  stops-after : (xs earlier : Moments) (at : Moment × State) (b : Breakpoint)
      → stops_at bundle (xs ++ earlier) at b ≡ stops_at bundle earlier at (after bundle xs b)
  stops-after xs earlier at b =
      ap (λ (c : Breakpoint). hits bundle at b && is_enough b c.hits)
      (ap (λ (l : Moments). after bundle l b) (append_assoc xs earlier (at ∷ []))
      ∙ after-append xs (earlier ++ at ∷ []) b)

  not_or_and : (x y t : Bool) → not ((x || y) && t) ≡ (not (x && t) && not (y && t))
  not_or_and true y true = refl
  not_or_and true true false = refl
  not_or_and true false false = refl
  not_or_and false y t = refl

  there-append : (xs ys : Moments) (b : Breakpoint)
      → is_there_after bundle (xs ++ ys) b ≡ (is_there_after bundle xs b
      && is_there_after bundle ys (after bundle xs b))
  there-append xs ys b =
      let stops : Reached (Moment × State) → Bool = λ r. stops_at bundle r.past r.here b in
      let later : Reached (Moment × State) → Bool = λ r. stops_at bundle r.past r.here (after bundle xs b) in
      let before : Bool = list_any stops (each_from [] xs) in
      ap (λ (t : Bool). not (t && b.temporary)) (past-append stops [] xs ys)
      ∙ ap (λ (l : Moments). not ((before || list_any stops (each_from l ys)) && b.temporary)) (sym (append-nil xs))
      ∙ ap (λ (t : Bool). not ((before || t) && b.temporary))
      (past_shifted stops later xs (λ earlier at. stops-after xs earlier at b) [] ys)
      ∙ not_or_and before (list_any later (each_from [] ys)) b.temporary

  pub held-append : (xs ys : Moments) (held : List Breakpoint)
      → held_after bundle (xs ++ ys) held ≡ held_after bundle ys (held_after bundle xs held)
  held-append xs ys held =
      kept_twice (after bundle (xs ++ ys)) (after bundle xs) (after bundle ys) (is_there_after bundle (xs ++ ys))
      (is_there_after bundle xs) (is_there_after bundle ys)
      (after-append xs ys) (there-append xs ys) held

  pub held-none : (held : List Breakpoint) → held_after bundle [] held ≡ held
  held-none [] = refl
  held-none (b ∷ held) = λ i. with_more-zero b i ∷ held-none held i

  pub stop-append : (held : List Breakpoint) (xs earlier : Moments) (at : Moment × State)
      → one_stops bundle held (xs ++ earlier) at ≡ one_stops bundle (held_after bundle xs held) earlier at
  stop-append held xs earlier at =
      passes_later (after bundle xs) (is_there_after bundle (xs ++ earlier)) (is_there_after bundle xs)
      (is_there_after bundle earlier)
      (stops_at bundle (xs ++ earlier) at) (stops_at bundle earlier at) (there-append xs earlier)
      (stops-after xs earlier at) held

  -- ---- the stop rule

  module _ (mode : Moment → Bool) where
    -- what is held past a moment
    abbrev past : List Breakpoint → Moment × State → List Breakpoint
    past held at = held_after bundle (at ∷ []) held

    abbrev tested : List Breakpoint → Reached (Moment × State) → Bool
    tested held r = mode r.here.0 || one_stops bundle held r.past r.here

    abbrev stop_from : List Breakpoint → ℕ → Moments → Option ℕ
    stop_from held n moments = position_from (tested held) (n + 1) (each_from [] moments)

    -- past a moment that does not stop
    stop-later : (held : List Breakpoint) (n : ℕ) (at : Moment × State) (later : Moments)
        → position_from (tested held) (n + 1 + 1) (each_from (at ∷ []) later) ≡ stop_from
        (held_after bundle (at ∷ []) held) (n + 1) later
    stop-later held n at later =
        position_shifted (tested held) (tested (held_after bundle (at ∷ []) held)) (at ∷ [])
        (λ earlier x. ap (λ (t : Bool). mode x.0 || t) (stop-append held (at ∷ []) earlier x))
        (n + 1 + 1) [] later

    pub found-stop : (held : List Breakpoint) (n : ℕ) (moments : Moments)
        → (found mode bundle held n moments).0 ≡ stop_from held n moments
    found-stop held n [] = refl
    found-stop held n (at ∷ later) =
        cases (mode at.0 || one_stops bundle held [] at) (found-stop (past held at) (n + 1) later) where
          cases : (t : Bool) → (found mode bundle (past held at) (n + 1) later).0
              ≡ stop_from (past held at) (n + 1) later
              → (cond t (Some (n + 1), (past held at)) (found mode bundle (past held at) (n + 1) later)).0
              ≡ cond t (Some (n + 1)) (position_from (tested held) (n + 1 + 1) (each_from (at ∷ []) later))
          cases true more = refl
          cases false more = more ∙ sym (stop-later held n at later)

    -- the moments up to a stop, of which the first does not stop
    up_to-later : (n : ℕ) (stop : Option ℕ) (at : Moment × State) (later : Moments)
        → ((j : ℕ) → stop ≡ Some j → n + 1 + 1 ≤ j) → up_to n stop (at ∷ later) ≡ at ∷ up_to (n + 1) stop later
    up_to-later n None at later past = refl
    up_to-later n (Some j) at later past =
        let far = past j refl in
        let more : j - n ≡ suc (j - (n + 1)) = omega arith in
        ap (λ (k : ℕ). take k (at ∷ later)) more

    pub found-held : (held : List Breakpoint) (n : ℕ) (moments : Moments)
        → (found mode bundle held n moments).1 ≡ held_after bundle (up_to n (stop_from held n moments) moments) held
    found-held held n [] = sym (held-none held)
    found-held held n (at ∷ later) =
        cases (mode at.0 || one_stops bundle held [] at) (found-held (past held at) (n + 1) later) where
          cases : (t : Bool) → (found mode bundle (past held at) (n + 1) later).1 ≡ held_after bundle
              (up_to (n + 1) (stop_from (past held at) (n + 1) later) later) (past held at)
              → (cond t (Some (n + 1), (past held at)) (found mode bundle (past held at) (n + 1) later)).1
              ≡ held_after bundle (up_to n (cond t (Some (n + 1))
              (position_from (tested held) (n + 1 + 1) (each_from (at ∷ []) later))) (at ∷ later)) held
          cases true more =
              let one : 1 ≡ n + 1 - n = omega arith in ap (λ (k : ℕ). held_after bundle (take k (at ∷ later)) held) one
          cases false more =
              let there : Option ℕ = stop_from (past held at) (n + 1) later in
              more
              ∙ sym (held-append (at ∷ []) (up_to (n + 1) there later) held)
              ∙ ap (λ (l : Moments). held_after bundle l held) (sym
              (up_to-later n there at later (λ j e. position_least (tested (past held at)) (n + 1 + 1)
              (each_from [] later) j e)))
              ∙ ap (λ (o : Option ℕ). held_after bundle (up_to n o (at ∷ later)) held)
              (sym (stop-later held n at later))

    -- where no breakpoint is held
    bare_from : (k : ℕ) (earlier moments : Moments)
        → position_from (tested []) k (each_from earlier moments) ≡ position_from (λ at. mode at.0) k moments
    bare_from k earlier [] = refl
    bare_from k earlier (at ∷ later) =
        λ i. cond (or_false (mode at.0) i) (Some k) (bare_from (k + 1) (earlier ++ at ∷ []) later i)

    pub stop-none : (n : ℕ) (moments : Moments)
        → stop_above mode bundle [] n moments ≡ position_from (λ at. mode at.0) (n + 1) (drop n moments)
    stop-none n moments = bare_from (n + 1) [] (drop n moments)
