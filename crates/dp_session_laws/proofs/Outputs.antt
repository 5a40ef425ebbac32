-- What a program has written stays written: along its moments, and by writes, the output only grows.
use Rattle.std.proofs.Common.{◌≡◌, ◌⊎◌, ℕ, zero, suc, ◌+◌, ◌<◌, ◌≤◌, Bool, true, false, if◌then◌else◌, List, [], ◌∷◌, ◌++◌, length, Some, Ok, refl, sym, ap, subst, ◌∙◌, inl, inr, ⊎_elim, arith, append_assoc, append-nil}
use Rattle.std.specs.Prelude.{nat_lt, slice_get}
use Rattle.std.proofs.lemmas.Bool.{cases_lt}
use Rattle.std.proofs.lemmas.Option.{slice_get_within}
use Rattle.dp_tree.specs.declared.bundle.Bundle.{Bundle}
use Rattle.dp_state.specs.declared.moments.Moment.{Moment}
use Rattle.dp_state.specs.declared.moments.Outcome.TheVariants.{Bound as OutOfBound}
use Rattle.dp_state.specs.declared.state.State.{State}
use Rattle.dp_state.specs.Places.{given_keys}
use Rattle.dp_state.specs.States.{printed}
use Rattle.dp_tree.specs.declared.tree.Expression.{Expression}
use Rattle.dp_meaning.specs.Programs.{program_run}
use Rattle.dp_actions.specs.Run.{Run, Done, Over, At}
use Rattle.dp_meaning.specs.declared.writes.NumberedWrite.{NumberedWrite}
use Rattle.dp_meaning.specs.declared.writes.Write.{Write}
use Rattle.dp_meaning.specs.declared.writes.Write.TheVariants.{Place, Evaluate}
use Rattle.dp_meaning.specs.Trace.{Trace, Ended, moment_of, program_trace, trace, with_moment}
use Rattle.dp_meaning.specs.Writes.{arrived, evaluated, evaluation_setting, left_by, one_write, written, written_by, writes_of}
use Rattle.dp_meaning.proofs.Alike.{Facts, IsKept, all-lines}
use Rattle.dp_meaning.proofs.Always.{Always, Always-program, kept-part, of_states}
use Rattle.dp_meaning.proofs.Apart.{IsApart, IsBeside, either-ok, part-assigned}
use Rattle.dp_meaning.proofs.Steady.{IsSteady, steady-program}
use Rattle.dp_meaning.proofs.WrittenMoments.{moments-written}
use Rattle.dp_meaning.proofs.WrittenStates.{evaluation-leaves, place-leaves, writes-keep}
use Rattle.dp_conversation.specs.Growth.{Begins}

-- ---- steps

abbrev output_of : State → List ℕ
output_of s = s.output

apart : IsApart output_of
apart = record { globals = λ vs s. refl; own = λ at vs s. refl; constants = λ cs s. refl }

beside : IsBeside output_of
beside = record { frames = λ fs s. refl; declared = λ ds s. refl }

output-printed : (piece : List ℕ) (s t : State) → printed piece s ≡ Ok t → t.output ≡ s.output ++ piece
output-printed piece s t e = ap output_of (sym (either-ok _ _ _ _ e))

-- ---- one list begins another

pub begins_same : (o : List ℕ) → Begins o o
begins_same o = ([], sym (append-nil o))

begins_more : (o l piece : List ℕ) → Begins o l → Begins o (l ++ piece)
begins_more o l piece h = (h.0 ++ piece, ap (λ (x : List ℕ). x ++ piece) h.1 ∙ append_assoc o h.0 piece)

pub begins_all : (o l m : List ℕ) → Begins o l → Begins l m → Begins o m
begins_all o l m p q = (p.0 ++ q.0, q.1 ∙ ap (λ (x : List ℕ). x ++ q.0) p.1 ∙ append_assoc o p.0 q.0)

-- ---- writes

-- what an evaluation leaves begins with what was written before it
module _ (o : List ℕ) where
  abbrev Said : Unit {0} → ℕ → State → Type 0
  Said d n s = Begins o s.output

  keeps : (bundle : Bundle) → IsKept (of_states Said) bundle
  keeps bundle =
      kept-part Said output_of apart beside (λ d n s t e said. subst (Begins o) (sym e) said)
      (λ d n piece s t e p. subst (Begins o) (sym (output-printed piece s t e)) (begins_more o s.output piece p)) bundle

evaluation_adds : (bundle : Bundle) (e : Expression) (s : State)
    → Begins s.output (left_by s (evaluated (evaluation_setting bundle) e s)).output
evaluation_adds bundle e s =
    let o : List ℕ = s.output in
    let f : Facts (Unit {0}) = of_states (Said o) in
    evaluation-leaves f bundle (keeps o bundle) (all-lines f bundle (λ d line. tt)) (λ d n line s p. p) (omega arith)
    (λ t. Begins o t.output) tt 0 e s (begins_same o) (begins_same o) (λ m t p. p)

-- one write only adds to the output
pub write_adds : (bundle : Bundle) (w : Write) (s : State)
    → Begins s.output (one_write (evaluation_setting bundle) w s).output
write_adds bundle (Place level context path v) s =
    place-leaves (λ t. Begins s.output t.output) s (begins_same s.output) (λ level path v t e.
    subst (Begins s.output) (sym (part-assigned output_of apart level path.name (given_keys path.keys) false v s t e))
    (begins_same s.output)) level context path v
write_adds bundle (Evaluate e) s = evaluation_adds bundle e s

-- and so do the writes of a number
pub writes_add : (bundle : Bundle) (ws : List NumberedWrite) (n : ℕ) (s : State)
    → Begins s.output (written_by (evaluation_setting bundle) ws n s).output
writes_add bundle ws n s =
    writes-keep (evaluation_setting bundle) (λ t. Begins s.output t.output) (λ w t p.
    begins_all s.output t.output _ p (write_adds bundle w t)) ws n s (begins_same s.output)

-- ---- from the writes of the i-th moment on, the output begins with this

module _ (i : ℕ) (o : List ℕ) where
  abbrev HasSaid : Unit {0} → ℕ → State → Type 0
  HasSaid d n s = (n < i) ⊎ Begins o s.output

  carried : (n : ℕ) (s t : State) → t.output ≡ s.output → HasSaid tt n s → HasSaid tt n t
  carried n s t e (inl before) = inl before
  carried n s t e (inr said) = inr (subst (Begins o) (sym e) said)

  carried_on : (n : ℕ) (piece : List ℕ) (s t : State) → t.output ≡ s.output ++ piece → HasSaid tt n s → HasSaid tt n t
  carried_on n piece s t e (inl before) = inl before
  carried_on n piece s t e (inr said) = inr (subst (Begins o) (sym e) (begins_more o s.output piece said))

  kept : (bundle : Bundle) → IsKept (of_states HasSaid) bundle
  kept bundle =
      kept-part HasSaid output_of apart beside (λ d n s t e p. carried n s t e p)
      (λ d n piece s t e p. carried_on n piece s t (output-printed piece s t e) p) bundle

  said_program : (bundle : Bundle) (bound : ℕ) → 0 < i → Always HasSaid tt 0 (program_run bundle bound)
  said_program bundle bound some = Always-program HasSaid bundle (kept bundle) bound tt (inl some)

  -- ---- along a trace

  module _ (bundle : Bundle) (bound : ℕ) (ws : List NumberedWrite) where
    abbrev trace_from : {A : Type 0} → Run A → Trace A
    trace_from r = trace bound (writes_of bundle ws) r

    -- the i-th moment, if the trace comes to it, has this output after its writes
    abbrev IsThere : ℕ → List (Moment × State) → Type 0
    IsThere n moments =
        (k : ℕ) (q : Moment × State) → n + k + 1 ≡ i → slice_get moments k ≡ Some q
        → (written (writes_of bundle ws) i q.1).output ≡ o

    -- and from then on the output begins with it
    record Stays {A : Type 0} (n : ℕ) (t : Trace A) : Type 0 where
      moments : (k : ℕ) (q : Moment × State) → slice_get t.moments k ≡ Some q → i < n + k + 1 → Begins o q.1.output
      end : i ≤ n + length t.moments → Begins o t.state.output

    said : (n : ℕ) (s : State) → HasSaid tt n s → i ≤ n → Begins o s.output
    said n s (inl before) late = absurd (omega arith)
    said n s (inr h) late = h

    none_at : {X : Type 0} (k : ℕ) (q : X) → slice_get [] k ≡ Some q → ⊥
    none_at zero q e = cc
    none_at (suc k) q e = cc

    stays_over : {A : Type 0} (n : ℕ) (t : Trace A) → t.moments ≡ [] → HasSaid tt n t.state → Stays n t
    stays_over n t none h = record {
      moments = λ k q e late. absurd (none_at k q (ap (λ (l : List (Moment × State)). slice_get l k) (sym none) ∙ e));
      end = λ late. said n t.state h (omega (arith, late, ap length none));
    }

    stays_from : {A : Type 0} (r : Run A) (n : ℕ) → Always HasSaid tt n r → IsSteady n r
        → IsThere n (trace_from r).moments → Stays n (trace_from r)
    stays_from (Done a s) n h steady there = stays_over n _ refl h
    stays_from (Over e s) n h steady there = stays_over n _ refl h.1
    stays_from {A} (At kind line s go) n h steady there =
        cases (nat_lt s.moments bound) (λ p q. stays_from (go u) (n + 1) (h.2 u p) (steady.2 u numbered) q) there where
          t : State
          t = arrived line s

          u : State
          u = written (writes_of bundle ws) (s.moments + 1) t

          numbered : u.moments ≡ n + 1
          numbered = moments-written (writes_of bundle ws) (s.moments + 1) t ∙ ap (λ (k : ℕ). k + 1) steady.1

          moment : Moment
          moment = moment_of kind t

          rest : Trace A
          rest = trace_from (go u)

          -- after the writes of this moment
          here : ((k : ℕ) (q : Moment × State) → n + k + 1 ≡ i → slice_get ((moment, t) ∷ rest.moments) k ≡ Some q
              → (written (writes_of bundle ws) i q.1).output ≡ o) → i ≤ n + 1 → Begins o u.output
          here there late =
              ⊎_elim
              (λ (before : n < i).
              let same : s.moments + 1 ≡ i = omega (arith, late, before, steady.1) in
              subst (Begins o)
              (sym (there 0 (moment, t) (omega (arith, late, before)) refl)
              ∙ ap (λ (k : ℕ). (written (writes_of bundle ws) k t).output) (sym same)) (begins_same o))
              (λ (after : i ≤ n). begins_all o s.output u.output (said n s h.1 after)
              (writes_add bundle ws (s.moments + 1) t)) (cases_lt n i)

          next : ((k : ℕ) (q : Moment × State) → n + k + 1 ≡ i → slice_get ((moment, t) ∷ rest.moments) k ≡ Some q
              → (written (writes_of bundle ws) i q.1).output ≡ o) → HasSaid tt (n + 1) u
          next there =
              ⊎_elim (λ (before : n + 1 < i). inl before) (λ (after : i ≤ n + 1). inr (here there after))
              (cases_lt (n + 1) i)

          within : Stays (n + 1) rest → Stays n (with_moment moment t rest)
          within later = record {
            moments = at;
            end = λ late. later.end (omega (arith, late));
          } where
            at : (k : ℕ) (q : Moment × State) → slice_get ((moment, t) ∷ rest.moments) k ≡ Some q → i < n + k + 1
                → Begins o q.1.output
            at zero q e late =
                let same : (moment, t) ≡ q = cc in subst (λ (p : Moment × State). Begins o p.1.output) same
                (said n s h.1 (omega (arith, late)))
            at (suc k) q e late = later.moments k q e (omega (arith, late))

          cases : (b : Bool) → (HasSaid tt (n + 1) u → IsThere (n + 1) rest.moments → Stays (n + 1) rest)
              → IsThere n (if b then with_moment moment t rest
              else (record { moments = []; end = Ended OutOfBound; state = s })).moments
              → Stays n (if b then with_moment moment t rest
              else (record { moments = []; end = Ended OutOfBound; state = s }))
          cases true later there = within (later (next there) (λ k q e f. there (suc k) q (omega (arith, e)) f))
          cases false later there = stays_over n _ refl h.1

-- ---- programs

module _ (bundle : Bundle) (bound : ℕ) (ws : List NumberedWrite) where
  -- what is written by a moment, with its writes, in the state in which it comes
  abbrev pub with_writes : ℕ → State → State
  with_writes number s = written (writes_of bundle ws) number s

  -- what a program has written at a moment stays in front of what it has written at later ones, and at its end
  pub record StaysWritten (i : ℕ) (s : State) : Type 0 where
    pub later : (j : ℕ) (q : Moment × State) → slice_get (program_trace bundle bound ws).moments j ≡ Some q → i < j
        → Begins s.output q.1.output
    pub end : Begins s.output (program_trace bundle bound ws).state.output

  pub stays_written : (i : ℕ) (p : Moment × State) → slice_get (program_trace bundle bound ws).moments i ≡ Some p
      → StaysWritten i (with_writes (suc i) p.1)
  unfolding program_trace
  stays_written i p is =
      let o = (with_writes (suc i) p.1).output in
      let all = stays_from (suc i) o bundle bound ws (program_run bundle bound) 0
      (said_program (suc i) o bundle bound (omega arith)) (steady-program bundle bound) there in
      record {
        later = λ j q e late. all.moments j q e (omega (arith, late));
        end = all.end (omega (arith, slice_get_within (program_trace bundle bound ws).moments i p is));
      } where
        there : (k : ℕ) (q : Moment × State) → 0 + k + 1 ≡ suc i
            → slice_get (program_trace bundle bound ws).moments k ≡ Some q
            → (with_writes (suc i) q.1).output ≡ (with_writes (suc i) p.1).output
        there k q e f =
            let same : k ≡ i = omega (arith, e) in
            let both : Some q ≡ Some p = sym f ∙ ap (slice_get (program_trace bundle bound ws).moments) same ∙ is in
            let one : q ≡ p = cc in ap (λ (m : Moment × State). (with_writes (suc i) m.1).output) one
