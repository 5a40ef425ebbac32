-- Writes at a moment change the state there, and leave what was and what is to be done.
use Rattle.std.proofs.Common.{◌≡◌, ℕ, zero, suc, ◌+◌, ◌<◌, ◌≤◌, Bool, true, false, List, [], ◌∷◌, ◌++◌, Some, None, refl, sym, ap, ◌∙◌, append-nil, arith, subst}
use Rattle.std.proofs.lemmas.Bool.{ne_eqb}
use Rattle.std.proofs.lemmas.Bool.Decides.{nat_tests}
use Rattle.std.specs.Prelude.{if◌then◌else◌, nat_eq, nat_lt, option_map, slice_get}
use Rattle.dp_tree.specs.declared.bundle.Bundle.{Bundle}
use Rattle.dp_state.specs.declared.moments.Moment.{Moment}
use Rattle.dp_state.specs.declared.moments.Outcome.TheVariants.{Bound}
use Rattle.dp_state.specs.declared.state.State.{State}
use Rattle.dp_state.specs.States.{opening}
use Rattle.dp_actions.specs.Run.{Run, Done, Over, At}
use Rattle.dp_actions.specs.Setting.{Setting}
use Rattle.dp_meaning.specs.declared.writes.NumberedWrite.{NumberedWrite}
use Rattle.dp_meaning.specs.declared.writes.Write.{Write}
use Rattle.dp_meaning.specs.Programs.{program_run}
use Rattle.dp_meaning.specs.Stops.{following}
use Rattle.dp_meaning.specs.Trace.{Ended, Trace, moment_of, program_trace, trace, with_moment}
use Rattle.dp_meaning.specs.Writes.{Writes, arrived, evaluation_setting, of_number, one_write, written, written_by, writes_of}
use Rattle.dp_meaning.proofs.Steady.{IsSteady, steady-program}
use Rattle.dp_meaning.proofs.WrittenMoments.{moments-written}
use Rattle.dp_step.specs.declared.machine.Machine.{Machine}
use Rattle.dp_step.specs.Stands.{NoneAbove, StandsFor, rest_of}
use Rattle.dp_step.proofs.MachineSteps.{of_image}

nat_eq-same : (n : ℕ) → nat_eq n n ≡ true
nat_eq-same n = grind (arith, nat_tests)

-- ---- writes by their numbers

pub of-append : (n : ℕ) (ws vs : List NumberedWrite) → of_number n (ws ++ vs) ≡ of_number n ws ++ of_number n vs
of-append n [] vs = refl
of-append n (w ∷ ws) vs = by (nat_eq w.moment n) (of-append n ws vs)
  where
    by : (b : Bool) → of_number n (ws ++ vs) ≡ of_number n ws ++ of_number n vs
        → (if b then w ∷ of_number n (ws ++ vs) else of_number n (ws ++ vs))
        ≡ (if b then w ∷ of_number n ws else of_number n ws) ++ of_number n vs
    by true more = ap (λ l. w ∷ l) more
    by false more = more

pub of-other : (n k : ℕ) (ws : List NumberedWrite) → (n ≡ k → ⊥) → of_number k (of_number n ws) ≡ []
of-other n k [] apart = refl
of-other n k (w ∷ ws) apart = by (nat_eq w.moment n) refl (of-other n k ws apart)
  where
    by : (b : Bool) → nat_eq w.moment n ≡ b → of_number k (of_number n ws) ≡ []
        → of_number k (if b then w ∷ of_number n ws else of_number n ws) ≡ []
    by true e more =
        let is : w.moment ≡ n = grind (arith, nat_tests) in rw (ne_eqb w.moment k (λ f. apart (sym is ∙ f))) more
    by false e more = more

-- the state after the writes of a number goes by these alone
written-of : (setting : Setting) (ws : List NumberedWrite) (n : ℕ) (s : State) → written_by setting ws n s
    ≡ written_by setting (of_number n ws) n s
written-of setting [] n s = refl
written-of setting (w ∷ ws) n s = by (nat_eq w.moment n) refl (written-of setting ws n)
  where
    by : (b : Bool) → nat_eq w.moment n ≡ b
        → ((t : State) → written_by setting ws n t ≡ written_by setting (of_number n ws) n t)
        → written_by setting ws n (if b then one_write setting w.write s else s)
        ≡ written_by setting (if b then w ∷ of_number n ws else of_number n ws) n s
    by true e more =
        more (one_write setting w.write s)
        ∙ sym (ap (λ (b : Bool). written_by setting (of_number n ws) n
        (if b then one_write setting w.write s else s)) e)
    by false e more = more s

written-append : (setting : Setting) (ws vs : List NumberedWrite) (n : ℕ) (s : State)
    → written_by setting (ws ++ vs) n s ≡ written_by setting vs n (written_by setting ws n s)
written-append setting [] vs n s = refl
written-append setting (w ∷ ws) vs n s = written-append setting ws vs n
    (if nat_eq w.moment n then one_write setting w.write s else s)

-- two lists have the same writes of each number below n
abbrev pub SameBelow : ℕ → List NumberedWrite → List NumberedWrite → Type 0
SameBelow n ws vs = (k : ℕ) → k < n → of_number k ws ≡ of_number k vs

same-written : (setting : Setting) (ws vs : List NumberedWrite) (n : ℕ) (s : State) → of_number n ws ≡ of_number n vs
    → written_by setting ws n s ≡ written_by setting vs n s
same-written setting ws vs n s same =
    written-of setting ws n s ∙ ap (λ l. written_by setting l n s) same ∙ sym (written-of setting vs n s)

-- ---- moments by what was written before

differs : (m n : ℕ) → m ≤ n → nat_eq m n ≡ false → m < n
differs m n le e = grind (arith, nat_tests)

abbrev Agree : ℕ → Writes → Writes → Type 0
Agree n ws vs = (j : ℕ) (s : State) → j < n → written ws j s ≡ written vs j s

-- writes that do the same below a number have the same moments up to it, and the same follows
module _ {A : Type 0} (bound n : ℕ) (ws vs : Writes) (agree : Agree n ws vs) where
  abbrev absent : State → Trace A
  absent s = record { moments = []; end = Ended Bound; state = s }

  same-moments : (r : Run A) (k m : ℕ) → IsSteady k r → k + suc m ≤ n → slice_get (trace bound ws r).moments m
      ≡ slice_get (trace bound vs r).moments m
  same-moments (Done a s) k m h le = refl
  same-moments (Over o s) k m h le = refl
  same-moments (At kind line s go) k m h le =
      cases (nat_lt s.moments bound) m (λ j le. same-moments (go t) (k + 1) j (h.2 t there) le) le
    where
      t : State
      t = written ws (s.moments + 1) (arrived line s)

      u : State
      u = written vs (s.moments + 1) (arrived line s)

      there : t.moments ≡ k + 1
      there = moments-written ws (s.moments + 1) (arrived line s) ∙ ap (λ n. n + 1) h.1

      cases : (b : Bool) (m : ℕ)
          → ((j : ℕ) → k + 1 + suc j ≤ n → slice_get (trace bound ws (go t)).moments j
          ≡ slice_get (trace bound vs (go t)).moments j) → k + suc m ≤ n
          → slice_get (let w : Trace A = if b then with_moment (moment_of kind (arrived line s)) (arrived line s)
          (trace bound ws (go t)) else absent s in w.moments) m
          ≡ slice_get (let w : Trace A = if b then with_moment (moment_of kind (arrived line s)) (arrived line s)
          (trace bound vs (go u)) else absent s in w.moments) m
      cases true zero more le = refl
      cases true (suc m) more le =
          more m (omega arith)
          ∙ ap (λ x. slice_get (trace bound vs (go x)).moments m)
          (agree (s.moments + 1) (arrived line s) (omega (arith, h.1)))
      cases false m more le = refl

  same-following : (r : Run A) (k : ℕ) → IsSteady k r → k < n → following bound ws r n ≡ following bound vs r n
  same-following (Done a s) k h le = refl
  same-following (Over o s) k h le = refl
  same-following (At kind line s go) k h le =
      cases (nat_lt s.moments bound) (nat_eq (s.moments + 1) n) refl
      (λ le. same-following (go t) (k + 1) (h.2 t there) le)
    where
      t : State
      t = written ws (s.moments + 1) (arrived line s)

      u : State
      u = written vs (s.moments + 1) (arrived line s)

      there : t.moments ≡ k + 1
      there = moments-written ws (s.moments + 1) (arrived line s) ∙ ap (λ n. n + 1) h.1

      cases : (b c : Bool) → nat_eq (s.moments + 1) n ≡ c
          → (k + 1 < n → following bound ws (go t) n ≡ following bound vs (go t) n)
          → (if b then (if c then Some go else following bound ws (go t) n) else None)
          ≡ (if b then (if c then Some go else following bound vs (go u) n) else None)
      cases false c e more = refl
      cases true true e more = refl
      cases true false e more =
          let under : s.moments + 1 < n = differs (s.moments + 1) n (omega (arith, h.1)) e in
          more (omega (arith, h.1))
          ∙ ap (λ x. following bound vs (go x) n) (agree (s.moments + 1) (arrived line s) under)

-- a state at a moment counts it
counted : {A : Type 0} (bound : ℕ) (ws : Writes) (r : Run A) (k m : ℕ) (p : Moment × State) → IsSteady k r
    → slice_get (trace bound ws r).moments m ≡ Some p → p.1.moments ≡ k + suc m
counted bound ws (Done a s) k m p h e = absurd (cc)
counted bound ws (Over o s) k m p h e = absurd (cc)
counted {A} bound ws (At kind line s go) k m p h e =
    cases (nat_lt s.moments bound) m (λ j f. counted bound ws (go t) (k + 1) j p (h.2 t there) f) e
  where
    t : State
    t = written ws (s.moments + 1) (arrived line s)

    rest : Trace A
    rest = trace bound ws (go t)

    there : t.moments ≡ k + 1
    there = moments-written ws (s.moments + 1) (arrived line s) ∙ ap (λ n. n + 1) h.1

    cases : (b : Bool) (m : ℕ) → ((j : ℕ) → slice_get rest.moments j ≡ Some p → p.1.moments ≡ k + 1 + suc j)
        → slice_get (let w : Trace A = if b then with_moment (moment_of kind (arrived line s))
        (arrived line s) rest else record { moments = []; end = Ended Bound; state = s } in w.moments) m ≡ Some p
        → p.1.moments ≡ k + suc m
    cases true zero more f =
        let same : (moment_of kind (arrived line s), arrived line s) ≡ p = cc in
        ap (λ (q : Moment × State). q.1.moments) (sym same) ∙ omega (arith, h.1)
    cases true (suc m) more f = more m f ∙ omega arith
    cases false m more f = absurd (cc)

pub number-is : (bundle : Bundle) (bound : ℕ) (ws : List NumberedWrite) (n : ℕ) (m : Machine)
    → StandsFor bundle bound ws n m → m.state.moments ≡ n
unfolding program_trace
number-is bundle bound ws zero m stands =
    let same : opening bundle ≡ m.state = let e = stands.state in cc in ap (λ (s : State). s.moments) (sym same)
number-is bundle bound ws (suc k) m stands =
    let found = of_image _ _ _ stands.state in
    ap (λ (s : State). s.moments) (sym found.2)
    ∙ moments-written (writes_of bundle ws) (suc k) found.0.1
    ∙ counted bound (writes_of bundle ws) (program_run bundle bound) 0 k found.0 (steady-program bundle bound) found.1
    ∙ omega arith

-- ---- machines

module _ (bundle : Bundle) (bound : ℕ) (ws vs : List NumberedWrite) (old new : Machine)
    (same_bundle : new.bundle.now ≡ old.bundle.now) (same_bound : new.bound ≡ old.bound)
    (rest : (s : State) → rest_of new s ≡ rest_of old s) where
  before-first : StandsFor bundle bound ws 0 old → NoneAbove 0 vs → new.state ≡ old.state
      → StandsFor bundle bound vs 0 new
  before-first stands early state = record {
    same_bundle = same_bundle ∙ stands.same_bundle;
    same_bound = same_bound ∙ stands.same_bound;
    none_above = early;
    state = stands.state ∙ ap Some (sym state);
    rest = (stands.rest.0, stands.rest.1, λ s. stands.rest.2 s ∙ sym (rest s));
  }

  at-moment : (k : ℕ) → StandsFor bundle bound ws (suc k) old → SameBelow (suc k) ws vs → NoneAbove (suc k) vs
      → ((s : State) → written (writes_of bundle ws) (suc k) s ≡ old.state → written (writes_of bundle vs) (suc k) s
      ≡ new.state)
      → StandsFor bundle bound vs (suc k) new
  unfolding program_trace
  at-moment k stands below early state =
      let agree : Agree (suc k) (writes_of bundle ws) (writes_of bundle vs) = λ j s lt. same-written
      (evaluation_setting bundle) ws vs j s (below j lt) in
      let found = of_image _ _ _ stands.state in
      let moments = same-moments bound (suc k) (writes_of bundle ws) (writes_of bundle vs) agree
      (program_run bundle bound) 0 k (steady-program bundle bound) (omega arith) in
      record {
        same_bundle = same_bundle ∙ stands.same_bundle;
        same_bound = same_bound ∙ stands.same_bound;
        none_above = early;
        state = ap (option_map (λ (p : Moment × State). written (writes_of bundle vs) (suc k) p.1))
            (sym moments ∙ found.1)
            ∙ ap Some (state found.0.1 found.2);
        rest = (
          stands.rest.0,
          sym (same-following bound (suc k) (writes_of bundle ws) (writes_of bundle vs) agree
              (program_run bundle bound) 0 (steady-program bundle bound) (omega arith))
              ∙ stands.rest.1,
          λ s. stands.rest.2 s ∙ sym (rest s),
        );
      }

-- ---- writes that are made

with-none : (n : ℕ) (ws vs : List NumberedWrite) → NoneAbove n ws → NoneAbove n (ws ++ of_number n vs)
with-none n (w ∷ ws) vs h = (h.0, with-none n ws vs h.1)
with-none n [] [] h = tt
with-none n [] (v ∷ vs) h = by (nat_eq v.moment n) refl (with-none n [] vs tt)
  where
    by : (b : Bool) → nat_eq v.moment n ≡ b → NoneAbove n (of_number n vs)
        → NoneAbove n (if b then v ∷ of_number n vs else of_number n vs)
    by true e more = let is : v.moment ≡ n = grind (arith, nat_tests) in (omega (arith, is), more)
    by false e more = more

with-below : (n : ℕ) (ws vs : List NumberedWrite) → SameBelow n ws (ws ++ of_number n vs)
with-below n ws vs k lt =
    sym (of-append k ws (of_number n vs) ∙ ap (λ l. of_number k ws ++ l) (of-other n k vs (λ e. omega (arith, e)))
    ∙ append-nil (of_number k ws))

module _ (bundle : Bundle) (bound : ℕ) (ws vs : List NumberedWrite) (old : Machine) where
  -- nothing is made before the first moment
  pub none-made : (n : ℕ) → StandsFor bundle bound ws n old → old.state.moments ≡ 0
      → StandsFor bundle bound (ws ++ of_number n vs) n old
  none-made zero stands none = before-first bundle bound ws (ws ++ of_number 0 vs) old old refl refl (λ s. refl) stands
      (with-none 0 ws vs stands.none_above) refl
  none-made (suc k) stands none = absurd (omega (arith, number-is bundle bound ws (suc k) old stands, none))

  -- the writes of the moment are made
  pub all-made : (n : ℕ) (new : Machine) → StandsFor bundle bound ws n old → (old.state.moments ≡ 0 → ⊥)
      → new.bundle.now ≡ old.bundle.now → new.bound ≡ old.bound
      → ((s : State) → rest_of new s ≡ rest_of old s)
      → new.state ≡ written_by (evaluation_setting old.bundle.now) vs old.state.moments old.state
      → StandsFor bundle bound (ws ++ of_number n vs) n new
  all-made zero new stands some same_bundle same_bound rest state = absurd
      (some (number-is bundle bound ws 0 old stands))
  all-made (suc k) new stands some same_bundle same_bound rest state =
      at-moment bundle bound ws (ws ++ of_number (suc k) vs) old new same_bundle same_bound rest k stands
      (with-below (suc k) ws vs) (with-none (suc k) ws vs stands.none_above)
      (λ s e. written-append (evaluation_setting bundle) ws (of_number (suc k) vs) (suc k) s
      ∙ ap (written_by (evaluation_setting bundle) (of_number (suc k) vs) (suc k)) e
      ∙ sym (written-of (evaluation_setting bundle) vs (suc k) old.state)
      ∙ sym (state ∙ (λ i. written_by (evaluation_setting (stands.same_bundle i)) vs
      (number-is bundle bound ws (suc k) old stands i) old.state)))

-- one write is made at the moment
pub one-made : (bundle : Bundle) (bound : ℕ) (ws : List NumberedWrite) (n : ℕ) (w : Write) (old new : Machine)
    → StandsFor bundle bound ws (suc n) old → new ≡ record old { state = new.state }
    → new.state ≡ one_write (evaluation_setting old.bundle.now) w old.state
    → StandsFor bundle bound (ws ++ record { moment = suc n; write = w } ∷ []) (suc n) new
unfolding rest_of
one-made bundle bound ws n w old new stands same state =
    let number = number-is bundle bound ws (suc n) old stands in
    let this : NumberedWrite = record { moment = suc n; write = w } in
    let alone : of_number (suc n) (this ∷ []) ≡ this
    ∷ [] = ap (λ (b : Bool). if b then this ∷ [] else []) (nat_eq-same (suc n)) in
    subst (λ l. StandsFor bundle bound (ws ++ l) (suc n) new) alone
    (all-made bundle bound ws (this ∷ []) old (suc n) new stands (λ none. omega (arith, number, none))
    (ap (λ (m : Machine). m.bundle.now) same) (ap (λ (m : Machine). m.bound) same)
    (λ s. ap (λ (m : Machine). rest_of m s) same)
    (state ∙ sym (ap (λ (b : Bool). if b then one_write (evaluation_setting old.bundle.now) w old.state else old.state)
    (ap (nat_eq (suc n)) number ∙ nat_eq-same (suc n)))))
