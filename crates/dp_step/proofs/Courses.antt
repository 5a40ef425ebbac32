-- What follows a moment of a run, and the trace from there on.
use Rattle.std.proofs.Common.{◌≡◌, ℕ, zero, suc, ◌+◌, ◌<◌, ◌≤◌, Bool, true, false, [], Option, Some, None, refl, sym, ap, ◌∙◌, subst, arith, eq-eqb}
use Rattle.std.proofs.lemmas.Bool.{le-ltb, lt-ltb, ne_eqb}
use Rattle.std.specs.Prelude.{slice_get, if◌then◌else◌, nat_lt, nat_eq}
use Rattle.dp_state.specs.declared.moments.Moment.{Moment}
use Rattle.dp_state.specs.declared.moments.MomentKind.{MomentKind}
use Rattle.dp_state.specs.declared.moments.Outcome.TheVariants.{Bound}
use Rattle.dp_state.specs.declared.state.State.{State}
use Rattle.dp_actions.specs.Run.{Run, Done, Over, At}
use Rattle.dp_meaning.specs.Stops.{following}
use Rattle.dp_meaning.specs.Trace.{Ended, Trace, moment_of, trace, with_moment}
use Rattle.dp_meaning.specs.Writes.{Writes, arrived, written}
use Rattle.dp_meaning.proofs.Steady.{IsSteady}
use Rattle.dp_meaning.proofs.WrittenMoments.{moments-written}

-- past its m-th moment, of the number n, a run goes on as a later one does
pub record Past {A : Type 0} (bound : ℕ) (ws : Writes) (w : Trace A) (f : Option (State → Run A)) (m n : ℕ)
    (later : Run A) : Type 0 where
  pub next : slice_get w.moments (suc m) ≡ slice_get (trace bound ws later).moments 0
  pub after : f ≡ following bound ws later (suc n)
  pub end : w.end ≡ (trace bound ws later).end
  pub state : w.state ≡ (trace bound ws later).state
  pub steady : IsSteady n later

module _ {A : Type 0} (bound : ℕ) (ws : Writes) where
  pub goes_past : (r : Run A) (k m n : ℕ) (go : State → Run A) (p : Moment × State) → IsSteady k r → n ≡ k + suc m
      → following bound ws r n ≡ Some go → slice_get (trace bound ws r).moments m ≡ Some p
      → Past bound ws (trace bound ws r) (following bound ws r (suc n)) m n (go (written ws n p.1))
  goes_past (Done a s) k m n go p h e f g = absurd (cc)
  goes_past (Over o s) k m n go p h e f g = absurd (cc)
  goes_past (At kind line s next) k m n go p h e f g =
      cases (nat_lt s.moments bound) m e (λ j i a b. goes_past (next t) (k + 1) j n go p (h.2 t there) i a b) f g
    where
      t : State
      t = written ws (s.moments + 1) (arrived line s)

      rest : Trace A
      rest = trace bound ws (next t)

      there : t.moments ≡ k + 1
      there = moments-written ws (s.moments + 1) (arrived line s) ∙ ap (λ n. n + 1) h.1

      whole : Bool → Trace A
      whole b =
          if b then with_moment (moment_of kind (arrived line s)) (arrived line s) rest
          else (record { moments = []; end = Ended Bound; state = s })

      ahead : Bool → ℕ → Option (State → Run A)
      ahead b number =
          if b then (if nat_eq (s.moments + 1) number then Some next else following bound ws (next t) number) else None

      inner : (m : ℕ) → n ≡ k + suc m
          → ((j : ℕ) → n ≡ k + 1 + suc j → following bound ws (next t) n ≡ Some go → slice_get rest.moments j ≡ Some p
          → Past bound ws rest (following bound ws (next t) (suc n)) j n (go (written ws n p.1)))
          → ahead true n ≡ Some go → slice_get (whole true).moments m ≡ Some p
          → Past bound ws (whole true) (ahead true (suc n)) m n (go (written ws n p.1))
      inner zero e ih f g =
          let is : s.moments + 1 ≡ n = omega (arith, h.1) in
          let f : Some next ≡ Some go = rw (eq-eqb _ _ is) at f in
          let same : next ≡ go = cc in
          let pair : (moment_of kind (arrived line s), arrived line s) ≡ p = cc in
          let off : nat_eq (s.moments + 1) (suc n) ≡ false = ne_eqb _ _ (λ x. omega arith) in
          let there : n ≡ k + 1 = omega (arith) in
          subst (λ later. Past bound ws (whole true) (ahead true (suc n)) zero n later)
          (λ i. same i (written ws (is i) ((pair i).1))) (record {
            next = refl;
            after = rw off refl;
            end = refl;
            state = refl;
            steady =
                subst (λ x. IsSteady x (next t)) (sym there) (h.2 t
                (moments-written ws (s.moments + 1) (arrived line s) ∙ ap (λ n. n + 1) h.1));
          })
      inner (suc j) e ih f g =
          let on : nat_eq (s.moments + 1) n ≡ false = ne_eqb _ _ (λ x. omega (arith, h.1)) in
          let off : nat_eq (s.moments + 1) (suc n) ≡ false = ne_eqb _ _ (λ x. omega (arith, h.1)) in
          let later = ih j (omega arith) (rw on at f) g in record {
            next = later.next;
            after = rw off later.after;
            end = later.end;
            state = later.state;
            steady = later.steady;
          }

      cases : (b : Bool) (m : ℕ) → n ≡ k + suc m
          → ((j : ℕ) → n ≡ k + 1 + suc j → following bound ws (next t) n ≡ Some go → slice_get rest.moments j ≡ Some p
          → Past bound ws rest (following bound ws (next t) (suc n)) j n (go (written ws n p.1)))
          → ahead b n ≡ Some go → slice_get (whole b).moments m ≡ Some p
          → Past bound ws (whole b) (ahead b (suc n)) m n (go (written ws n p.1))
      cases true m e ih f g = inner m e ih f g
      cases false m e ih f g = absurd (cc)

  -- the first moment of a run
  module _ (r : Run A) (k : ℕ) (h : IsSteady k r) (kind : MomentKind) (line : ℕ) (s : State) (go : State → Run A)
      (is : r ≡ At kind line s go) where
    pub first-moments : s.moments ≡ k
    first-moments = (subst (λ r. IsSteady k r) is h).1

    pub first-moment : s.moments < bound
        → slice_get (trace bound ws r).moments 0 ≡ Some (moment_of kind (arrived line s), arrived line s)
    first-moment less = rw (is, lt-ltb _ _ less) refl

    pub first-following : s.moments < bound → following bound ws r (suc k) ≡ Some go
    first-following less =
        let e : s.moments + 1 ≡ suc k = omega (arith, first-moments) in
        rw (is, lt-ltb _ _ less, eq-eqb _ _ e) refl

    pub none-in-bound : bound ≤ s.moments → trace bound ws r ≡ record { moments = []; end = Ended Bound; state = s }
    none-in-bound more = rw (is, le-ltb _ _ more) refl
