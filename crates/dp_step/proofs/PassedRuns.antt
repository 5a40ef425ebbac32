-- What has been run whole has passed its moments.
use Rattle.std.proofs.Common.{◌≡◌, ℕ, zero, suc, ◌+◌, ◌-◌, ◌<◌, ◌≤◌, Bool, true, false, List, [], ◌∷◌, length, refl, sym, ap, ◌∙◌, subst, arith}
use Rattle.std.proofs.lemmas.Bool.Decides.{nat_tests}
use Rattle.std.specs.Option.{option_map_or}
use Rattle.std.specs.Prelude.{if◌then◌else◌, nat_lt, slice_get}
use Rattle.dp_state.specs.declared.moments.MomentKind.{MomentKind}
use Rattle.dp_state.specs.declared.moments.MomentKind.TheVariants.{Place, Enter, Leave}
use Rattle.dp_state.specs.declared.moments.Outcome.{Outcome}
use Rattle.dp_state.specs.declared.moments.Outcome.TheVariants as way
use Rattle.dp_state.specs.declared.state.Frame.{Frame}
use Rattle.dp_state.specs.declared.state.State.{State}
use Rattle.dp_state.specs.States.{with_line}
use Rattle.dp_actions.specs.Run.{Run, Done, Over, At, and_then}
use Rattle.dp_meaning.specs.inner.Drive.{Ends, Gives, Reached, drive, only_bounded}
use Rattle.dp_meaning.specs.Trace.{moment_of}
use Rattle.dp_meaning.specs.Writes.{arrived}
use Rattle.dp_analysis.specs.Quiet.{is_free}
use Rattle.dp_meaning.specs.Unwatched.{OnFree, is_unwatched}
use Rattle.dp_step.specs.Past.{IsPassed}
use Rattle.dp_step.specs.inner.Passing.{IsOverBy, Passes}

-- ---- the line of a moment

lined : (line : ℕ) (f : Frame) (fs : List Frame)
    → option_map_or (λ (g : Frame). g.line) (slice_get (with_line line (f ∷ fs)) (length fs)) 0 ≡ line
lined line f [] = refl
lined line f (g ∷ fs) = lined line g fs

long : (line : ℕ) (f : Frame) (fs : List Frame) → length (with_line line (f ∷ fs)) ≡ suc (length fs)
long line f [] = refl
long line f (g ∷ fs) = ap suc (long line g fs)

module _ (lines : List ℕ) (calls : Bool) (no-frame : is_free lines 0 ≡ true) where
  free-top : (line : ℕ) (fs : List Frame) → is_free lines line ≡ true
      → is_free lines (option_map_or (λ (g : Frame). g.line) (slice_get (with_line line fs)
      (length (with_line line fs) - 1)) 0) ≡ true
  free-top line [] free = no-frame
  free-top line (f ∷ fs) free =
      let long = long line f fs in
      let at : length (with_line line (f ∷ fs)) - 1 ≡ length fs = omega (arith, long) in
      ap (λ (n : ℕ). is_free lines (option_map_or (λ (g : Frame). g.line) (slice_get (with_line line (f ∷ fs)) n) 0)) at
      ∙ ap (is_free lines) (lined line f fs) ∙ free

  is-passed : (kind : MomentKind) (line : ℕ) (s : State) → is_unwatched lines calls kind line ≡ true
      → IsPassed lines calls (moment_of kind (arrived line s))
  is-passed Place line s free = free-top line s.frames free
  is-passed Enter line s free = free
  is-passed Leave line s free = free

  -- ---- a part, and what follows

  module _ (bound : ℕ) {A B : Type 0} (next : A → State → Run B) where
    abbrev pub Gave : Run A → A → State → Type 0
    Gave r a t = (k : ℕ) × Passes lines calls bound (and_then r next) k (next a t)

    abbrev pub Ended : Run A → Outcome → State → Type 0
    Ended r o t =
        (k : ℕ) × (later : Run B) × Passes lines calls bound (and_then r next) k later × IsOverBy bound later o t

    module _ (kind : MomentKind) (line : ℕ) (s : State) (go : State → Run A)
        (free : is_unwatched lines calls kind line ≡ true) where
      abbrev there : Reached A
      there = drive (only_bounded bound) (go (arrived line s))

      at-given : (a : A) (t : State) (b : Bool) → nat_lt s.moments bound ≡ b
          → (if b then there else Ends way.Bound s) ≡ Gives a t
          → (there ≡ Gives a t → Gave (go (arrived line s)) a t) → Gave (At kind line s go) a t
      unfolding and_then
      at-given a t true is e more =
          let less : s.moments < bound = grind (arith, nat_tests) in
          let later = more e in (suc later.0, (less, is-passed kind line s free, later.1))
      at-given a t false is e more = absurd (cc)

      at-ended : (o : Outcome) (t : State) (b : Bool) → nat_lt s.moments bound ≡ b
          → (if b then there else Ends way.Bound s) ≡ Ends o t
          → (there ≡ Ends o t → Ended (go (arrived line s)) o t) → Ended (At kind line s go) o t
      unfolding and_then
      at-ended o t true is e more =
          let less : s.moments < bound = grind (arith, nat_tests) in
          let later = more e in
          (suc later.0, later.1, (less, is-passed kind line s free, later.2), later.3)
      at-ended o t false is e more =
          let same : (way.Bound ≡ o) × (s ≡ t) = (cc, cc) in
          let over : bound ≤ s.moments = grind (arith, nat_tests) in
          (0, and_then (At kind line s go) next, refl, (over, sym same.0, sym same.1))

    pub gives : (r : Run A) → OnFree lines calls r → (a : A) (t : State) → drive (only_bounded bound) r ≡ Gives a t
        → Gave r a t
    unfolding and_then
    gives (Done b s) free a t e = let same : (b ≡ a) × (s ≡ t) = (cc, cc) in (0, λ i. next (same.0 i) (same.1 i))
    gives (Over o s) free a t e = absurd (cc)
    gives (At kind line s go) free a t e =
        at-given kind line s go free.0 a t (nat_lt s.moments bound) refl e
        (gives (go (arrived line s)) (free.1 (arrived line s)) a t)

    pub ends : (r : Run A) → OnFree lines calls r → (o : Outcome) (t : State) → drive (only_bounded bound) r ≡ Ends o t
        → Ended r o t
    unfolding and_then
    ends (Done b s) free o t e = absurd (cc)
    ends (Over p s) free o t e =
        let same : (p ≡ o) × (s ≡ t) = (cc, cc) in (0, Over p s, refl, (sym same.0, sym same.1))
    ends (At kind line s go) free o t e =
        at-ended kind line s go free.0 o t (nat_lt s.moments bound) refl e
        (ends (go (arrived line s)) (free.1 (arrived line s)) o t)

-- ---- one after the other

pub passes-on : {A : Type 0} (lines : List ℕ) (calls : Bool) (bound k j : ℕ) (r m l : Run A)
    → Passes lines calls bound r k m
    → Passes lines calls bound m j l → Passes lines calls bound r (k + j) l
passes-on lines calls bound zero j r m l h g =
    let e : j ≡ 0 + j = omega arith in
    subst (λ n. Passes lines calls bound r n l) e (subst (λ x. Passes lines calls bound x j l) (sym h) g)
passes-on lines calls bound (suc k) j (Done a s) m l h g = absurd h
passes-on lines calls bound (suc k) j (Over o s) m l h g = absurd h
passes-on lines calls bound (suc k) j (At kind line s go) m l h g =
    let e : suc (k + j) ≡ suc k + j = omega arith in
    subst (λ n. Passes lines calls bound (At kind line s go) n l) e
    (h.0, h.1, passes-on lines calls bound k j (go (arrived line s)) m l h.2 g)
