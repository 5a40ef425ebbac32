-- A write does not change what came before it.
use Rattle.std.proofs.Common.{◌≡◌, ℕ, zero, suc, ◌+◌, ◌-◌, ◌<◌, ◌≤◌, Bool, true, false, List, [], ◌∷◌, length, take, refl, sym, ap, ◌∙◌, arith}
use Rattle.std.specs.Prelude.{if◌then◌else◌, nat_eq, nat_lt}
use Rattle.dp_tree.specs.declared.bundle.Bundle.{Bundle}
use Rattle.dp_state.specs.declared.moments.Outcome.TheVariants.{Bound}
use Rattle.dp_state.specs.declared.state.State.{State}
use Rattle.dp_meaning.specs.declared.writes.NumberedWrite.{NumberedWrite}
use Rattle.dp_meaning_laws.specs.Past.{AgreeBelow, SameUpTo}
use Rattle.dp_meaning.specs.Programs.{program_run}
use Rattle.dp_actions.specs.Run.{Run, Done, Over, At}
use Rattle.dp_actions.specs.Setting.{Setting}
use Rattle.dp_meaning.specs.Trace.{Ended, Trace, moment_of, program_trace, trace, with_moment}
use Rattle.dp_meaning.specs.Writes.{Writes, arrived, evaluation_setting, of_number, one_write, written, written_by}
use Rattle.dp_meaning.proofs.Steady.{IsSteady, steady-program}
use Rattle.dp_meaning.proofs.WrittenMoments.{moments-written}

-- writes, one after another
made : Setting → List NumberedWrite → State → State
made setting [] s = s
made setting (w ∷ ws) s = made setting ws (one_write setting w.write s)

written-made : (setting : Setting) (ws : List NumberedWrite) (n : ℕ) (s : State)
    → written_by setting ws n s ≡ made setting (of_number n ws) s
unfolding made
written-made setting [] n s = refl
written-made setting (w ∷ ws) n s = go (nat_eq w.moment n) (written-made setting ws n)
  where
    go : (b : Bool) → ((t : State) → written_by setting ws n t ≡ made setting (of_number n ws) t)
        → written_by setting ws n (if b then one_write setting w.write s else s) ≡ made setting
        (if b then w ∷ of_number n ws else of_number n ws) s
    go true more = more (one_write setting w.write s)
    go false more = more s

agree-written : (setting : Setting) (n k : ℕ) (ws vs : List NumberedWrite) → AgreeBelow n ws vs → k < n → (s : State)
    → written_by setting ws k s ≡ written_by setting vs k s
agree-written setting n k ws vs agree below s =
    written-made setting ws k s ∙ ap (λ l. made setting l s) (agree k below) ∙ sym (written-made setting vs k s)

module _ (bound n : ℕ) (setting : Setting) (ws vs : List NumberedWrite) (agree : AgreeBelow n ws vs) where
  abbrev by : List NumberedWrite → Writes
  by list = record { setting = setting; list = list }

  same-up_to : {A : Type 0} (r : Run A) (k m : ℕ) → IsSteady k r → k + m ≤ n
      → take m (trace bound (by ws) r).moments ≡ take m (trace bound (by vs) r).moments
  same-up_to (Done a s) k m h le = refl
  same-up_to (Over o s) k m h le = refl
  same-up_to (At kind line s go) k zero h le = refl
  same-up_to {A} (At kind line s go) k (suc m) h le =
      cases (nat_lt s.moments bound) (rest m le (λ j le. same-up_to (go t) (k + 1) (suc j) (h.2 t there) le))
    where
      number : ℕ
      number = s.moments + 1

      t : State
      t = written (by ws) number (arrived line s)

      u : State
      u = written (by vs) number (arrived line s)

      there : t.moments ≡ k + 1
      there = moments-written (by ws) number (arrived line s) ∙ ap (λ n. n + 1) h.1

      rest : (m : ℕ) → k + suc m ≤ n
          → ((j : ℕ) → k + 1 + suc j ≤ n
          → take (suc j) (trace bound (by ws) (go t)).moments ≡ take (suc j) (trace bound (by vs) (go t)).moments)
          → take m (trace bound (by ws) (go t)).moments ≡ take m (trace bound (by vs) (go u)).moments
      rest zero le more = refl
      rest (suc m) le more =
          more m (omega arith)
          ∙ ap (λ x. take (suc m) (trace bound (by vs) (go x)).moments)
          (agree-written setting n number ws vs agree (omega (arith, h.1))
          (arrived line s))

      cases : (b : Bool) → take m (trace bound (by ws) (go t)).moments ≡ take m (trace bound (by vs) (go u)).moments
          → take (suc m) (let w : Trace A = if b
          then with_moment (moment_of kind (arrived line s)) (arrived line s) (trace bound (by ws)
          (go t)) else (record { moments = []; end = Ended Bound; state = s }) in w.moments)
          ≡ take (suc m) (let w : Trace A = if b
          then with_moment (moment_of kind (arrived line s)) (arrived line s) (trace bound (by vs)
          (go u)) else (record { moments = []; end = Ended Bound; state = s }) in w.moments)
      cases true more = ap (λ l. (moment_of kind (arrived line s), arrived line s) ∷ l) more
      cases false more = refl

  -- and where it is over before, it is over alike
  same-over : {A : Type 0} (r : Run A) (k m : ℕ) → IsSteady k r → k + m ≤ n → length (trace bound (by ws) r).moments < m
      → trace bound (by ws) r ≡ trace bound (by vs) r
  same-over (Done a s) k m h le short = refl
  same-over (Over o s) k m h le short = refl
  same-over {A} (At kind line s go) k m h le short =
      cases (nat_lt s.moments bound) (λ j more short. same-over (go t) (k + 1) j (h.2 t there) more short) short
    where
      number : ℕ
      number = s.moments + 1

      t : State
      t = written (by ws) number (arrived line s)

      u : State
      u = written (by vs) number (arrived line s)

      there : t.moments ≡ k + 1
      there = moments-written (by ws) number (arrived line s) ∙ ap (λ n. n + 1) h.1

      cases : (b : Bool)
          → ((j : ℕ) → k + 1 + j ≤ n → length (trace bound (by ws) (go t)).moments < j
          → trace bound (by ws) (go t) ≡ trace bound (by vs) (go t))
          → length (let w : Trace A = if b
          then with_moment (moment_of kind (arrived line s)) (arrived line s) (trace bound (by ws) (go t))
          else (record {
            moments = [];
            end = Ended Bound;
            state = s;
          }) in w.moments) < m
          → (let w : Trace A = if b
          then with_moment (moment_of kind (arrived line s)) (arrived line s) (trace bound (by ws) (go t))
          else (record {
            moments = [];
            end = Ended Bound;
            state = s;
          }) in w)
          ≡ (let w : Trace A = if b
          then with_moment (moment_of kind (arrived line s)) (arrived line s) (trace bound (by vs) (go u))
          else (record {
            moments = [];
            end = Ended Bound;
            state = s;
          }) in w)
      cases true more short =
          ap (λ (x : Trace A). with_moment (moment_of kind (arrived line s)) (arrived line s) x)
          (more (n - (k + 1)) (omega arith) (omega arith)
          ∙ ap (λ x. trace bound (by vs) (go x)) (agree-written setting n number ws vs agree (omega (arith, h.1))
          (arrived line s)))
      cases false more short = refl

module _ (bundle : Bundle) (bound n : ℕ) (ws vs : List NumberedWrite) (agree : AgreeBelow n ws vs) where
  pub past_stands : SameUpTo bundle bound n ws vs
  unfolding program_trace
  past_stands =
      same-up_to bound n (evaluation_setting bundle) ws vs agree (program_run bundle bound) 0 n
      (steady-program bundle bound) (omega arith)

  pub past_ends : length (program_trace bundle bound ws).moments < n
      → program_trace bundle bound ws ≡ program_trace bundle bound vs
  unfolding program_trace
  past_ends short =
      same-over bound n (evaluation_setting bundle) ws vs agree (program_run bundle bound) 0 n
      (steady-program bundle bound) (omega arith) short
