-- A run up to a stop is its trace at that moment.
use Rattle.std.proofs.Common.{◌≡◌, ℕ, zero, suc, ◌+◌, ◌≤◌, Bool, true, false, List, [], Option, Some, None, refl, sym, ap, ◌∙◌, subst, arith, eq-eqb}
use Rattle.std.proofs.lemmas.Bool.{ne_eqb}
use Rattle.std.specs.Prelude.{slice_get, if◌then◌else◌, nat_lt, nat_eq}
use Rattle.dp_tree.specs.declared.bundle.Bundle.{Bundle}
use Rattle.dp_state.specs.declared.moments.Moment.{Moment}
use Rattle.dp_state.specs.declared.moments.Outcome.TheVariants.{Bound}
use Rattle.dp_state.specs.declared.state.State.{State}
use Rattle.dp_meaning.specs.declared.stop.Stop.{Stop}
use Rattle.dp_meaning.specs.declared.stop.Stop.TheVariants as stop
use Rattle.dp_meaning.specs.declared.writes.NumberedWrite.{NumberedWrite}
use Rattle.dp_meaning.specs.inner.Drive.{Rules, Ends, Stops, at_number, drive, stopped}
use Rattle.dp_meaning.specs.Programs.{program_run}
use Rattle.dp_actions.specs.Run.{Run, Done, Over, At}
use Rattle.dp_meaning.specs.Trace.{Ended, IsStop, Trace, moment_at, moment_of, outcome_of, program_trace, trace, with_moment}
use Rattle.dp_meaning.specs.Writes.{Writes, arrived, written, writes_of}
use Rattle.dp_meaning.proofs.Steady.{IsSteady, steady-program}
use Rattle.dp_meaning.proofs.WrittenMoments.{moments-written}

-- where a program stops that is to stop at this moment of its trace, if there is one
abbrev at_stop : {A : Type 0} → Option (Moment × State) → Writes → ℕ → Trace A → Stop
at_stop None writes n t = stop.Ended (outcome_of t.end) t.state
at_stop (Some p) writes n t = stop.At p.0 (written writes n p.1)

at_stop-with_moment : {A : Type 0} (o : Option (Moment × State)) (ws : Writes) (n : ℕ) (m : Moment) (s : State)
    (t : Trace A)
    → at_stop o ws n (with_moment m s t) ≡ at_stop o ws n t
at_stop-with_moment None ws n m s t = refl
at_stop-with_moment (Some p) ws n m s t = refl

-- a run with these writes up to the moment of a number
abbrev stopping : ℕ → Writes → ℕ → Rules
stopping bound ws number = record { bound = bound; halts = at_number number; writes = ws }

module _ {A : Type 0} (bound : ℕ) (ws : Writes) (number : ℕ) where
  -- the run stops at the m-th moment from here, from 0 on
  drive-stop : (r : Run A) (k m : ℕ) → IsSteady k r → number ≡ k + suc m
      → stopped (drive (stopping bound ws number) r) ≡ at_stop (slice_get (trace bound ws r).moments m) ws number
      (trace bound ws r)
  drive-stop (Done a s) k m h e = refl
  drive-stop (Over o s) k m h e = refl
  drive-stop (At kind line s go) k m h e =
      cases (nat_lt s.moments bound) (inner (λ j g. drive-stop (go t) (k + 1) j (h.2 t there) g) m e)
    where
      t : State
      t = written ws (s.moments + 1) (arrived line s)

      moment : Moment
      moment = moment_of kind (arrived line s)

      rest : Trace A
      rest = trace bound ws (go t)

      there : t.moments ≡ k + 1
      there = moments-written ws (s.moments + 1) (arrived line s) ∙ ap (λ n. n + 1) h.1

      inner : ((j : ℕ) → number ≡ k + 1 + suc j
          → stopped (drive (stopping bound ws number) (go t)) ≡ at_stop (slice_get rest.moments j) ws number rest)
          → (m : ℕ) → number ≡ k + suc m
          → stopped (if nat_eq (s.moments + 1) number then Stops moment t else drive (stopping bound ws number) (go t))
          ≡ at_stop (slice_get (with_moment moment (arrived line s) rest).moments m) ws number
          (with_moment moment (arrived line s) rest)
      inner ih zero e =
          let f : s.moments + 1 ≡ number = omega (arith, h.1) in
          rw (eq-eqb _ _ f) (ap (λ n. stop.At moment (written ws n (arrived line s))) f)
      inner ih (suc m) e =
          let f : s.moments + 1 ≡ number → ⊥ = λ g. omega (arith, h.1) in
          let g : number ≡ k + 1 + suc m = omega arith in
          rw (ne_eqb _ _ f) (ih m g
          ∙ sym (at_stop-with_moment (slice_get rest.moments m) ws number moment (arrived line s) rest))

      cases : (b : Bool)
          → stopped (if nat_eq (s.moments + 1) number then Stops moment t else drive (stopping bound ws number) (go t))
          ≡ at_stop (slice_get (with_moment moment (arrived line s) rest).moments m) ws number
          (with_moment moment (arrived line s) rest)
          → stopped (if b
          then (if nat_eq (s.moments + 1) number then Stops moment t else drive (stopping bound ws number) (go t))
          else Ends Bound s)
          ≡ (let whole : Trace A = if b then with_moment moment (arrived line s) rest
          else (record { moments = []; end = Ended Bound; state = s }) in
          at_stop (slice_get whole.moments m) ws number whole)
      cases true i = i
      cases false i = refl

  -- the run does not stop where the number of the stop has passed
  drive-end : (r : Run A) (k : ℕ) → IsSteady k r → number ≤ k
      → stopped (drive (stopping bound ws number) r) ≡ at_stop None ws number (trace bound ws r)
  drive-end (Done a s) k h e = refl
  drive-end (Over o s) k h e = refl
  drive-end (At kind line s go) k h e =
      cases (drive-end (go t) (k + 1) (h.2 t there) (omega arith)) (nat_lt s.moments bound)
    where
      t : State
      t = written ws (s.moments + 1) (arrived line s)

      moment : Moment
      moment = moment_of kind (arrived line s)

      rest : Trace A
      rest = trace bound ws (go t)

      there : t.moments ≡ k + 1
      there = moments-written ws (s.moments + 1) (arrived line s) ∙ ap (λ n. n + 1) h.1

      f : s.moments + 1 ≡ number → ⊥
      f g = omega (arith, h.1)

      cases : stopped (drive (stopping bound ws number) (go t)) ≡ at_stop None ws number rest → (b : Bool)
          → stopped (if b
          then (if nat_eq (s.moments + 1) number then Stops moment t else drive (stopping bound ws number) (go t))
          else Ends Bound s)
          ≡ (let whole : Trace A = if b then with_moment moment (arrived line s) rest
          else (record { moments = []; end = Ended Bound; state = s }) in
          at_stop None ws number whole)
      cases ih true = rw (ne_eqb _ _ f) ih
      cases ih false = refl

  -- where it stops is as its trace says
  drive_is : (r : Run A) → IsSteady 0 r
      → stopped (drive (stopping bound ws number) r) ≡ at_stop (moment_at (trace bound ws r) number) ws number
      (trace bound ws r)
  drive_is r h = by number refl
    where
      by : (n : ℕ) → number ≡ n
          → stopped (drive (stopping bound ws number) r) ≡ at_stop (moment_at (trace bound ws r) n) ws number
          (trace bound ws r)
      by zero e = drive-end r 0 h (omega arith)
      by (suc m) e = drive-stop r 0 m h (omega arith)

is_stop : {A : Type 0} (t : Trace A) (ws : Writes) (n : ℕ) (o : Option (Moment × State)) → moment_at t n ≡ o
    → IsStop t ws n (at_stop o ws n t)
is_stop t ws n None e = (e, refl, refl)
is_stop t ws n (Some p) e = (p.1, e, refl)

-- ---- programs
pub program_stops : (bundle : Bundle) (ws : List NumberedWrite) (bound n : ℕ)
    → IsStop (program_trace bundle bound ws) (writes_of bundle ws) n
    (stopped (drive (record { bound = bound; halts = at_number n; writes = writes_of bundle ws })
    (program_run bundle bound)))
unfolding program_trace
program_stops bundle ws bound n =
    subst (IsStop (program_trace bundle bound ws) (writes_of bundle ws) n)
    (sym (drive_is bound (writes_of bundle ws) n (program_run bundle bound) (steady-program bundle bound)))
    (is_stop (trace bound (writes_of bundle ws) (program_run bundle bound)) (writes_of bundle ws) n _ refl)
