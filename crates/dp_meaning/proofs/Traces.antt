-- What is true along the trace of a program: its moments are numbered from one on, each state is of the bundle, and it
-- ends as a program can.
use Rattle.std.proofs.Common.{◌≡◌, ℕ, zero, suc, ◌+◌, ◌<◌, Bool, true, false, if◌then◌else◌, List, [], ◌∷◌, length, Option, Some, None, refl, sym, ap, ◌∙◌, subst, arith}
use Rattle.std.proofs.lemmas.Bool.{ltb-false, ltb-true}
use Rattle.std.specs.Option.{option_map_or}
use Rattle.std.specs.Prelude.{nat_lt, slice_get}
use Rattle.dp_tree.specs.CodeLines.{body_lines}
use Rattle.dp_tree.specs.declared.bundle.Bundle.{Bundle}
use Rattle.dp_tree.specs.declared.bundle.BundleFile.{BundleFile}
use Rattle.dp_state.specs.declared.moments.Moment.{Moment}
use Rattle.dp_state.specs.declared.moments.MomentKind.{MomentKind}
use Rattle.dp_state.specs.declared.moments.Outcome.TheVariants as way
use Rattle.dp_state.specs.declared.state.State.{State}
use Rattle.dp_state.specs.States.{IsOf, frame_limit, opening}
use Rattle.dp_meaning.specs.declared.stop.Stop.{Stop}
use Rattle.dp_meaning.specs.declared.stop.Stop.TheVariants as stop
use Rattle.dp_meaning.specs.declared.writes.NumberedWrite.{NumberedWrite}
use Rattle.dp_meaning.specs.Programs.{program_run, setting_of}
use Rattle.dp_actions.specs.Bodies.{statements_of}
use Rattle.dp_actions.specs.declared.signal.Signal.{Signal}
use Rattle.dp_actions.specs.declared.signal.Signal.TheVariants.{Next}
use Rattle.dp_actions.specs.Run.{Run, Done, Over, At}
use Rattle.dp_actions.specs.Statements.{body_run}
use Rattle.dp_meaning.specs.Stops.{state_of}
use Rattle.dp_meaning.specs.Trace.{Ended, Gave, IsStop, Trace, moment_of, outcome, outcome_of, program_trace, trace, with_moment}
use Rattle.dp_meaning.specs.Writes.{arrived, written, writes_of}
use Rattle.dp_meaning.proofs.Alike.{Alike, CanEnd, HaveLines, Stands}
use Rattle.dp_meaning.proofs.AlikeCalls.{within-found}
use Rattle.dp_meaning.proofs.AlikePrograms.{Alike-program}
use Rattle.dp_meaning.proofs.Each.{Each, each-all}
use Rattle.dp_meaning.proofs.OfBundle.{Anywhere, IsThere, Stack, facts, kept, main_file, nowhere, there-arrived, there-opening, written-there}

module _ (bundle : Bundle) (line : Stack → ℕ → Type 0) (bound : ℕ) where
  -- this moment comes after so many: in a state of the bundle, and on a line that has it
  pub record Comes (n : ℕ) (p : Moment × State) : Type 0 where
    pub stack : Stack
    pub kind : MomentKind
    pub on : ℕ
    pub before : State
    pub is : p ≡ (moment_of kind (arrived on before), arrived on before)
    pub there : IsThere bundle stack n before
    pub stands : Stands (facts bundle line bound) stack kind on
    pub within : n < bound

  -- so do all moments of a trace after so many, and the state at its end is of the bundle
  pub record Along {A : Type 0} (n : ℕ) (t : Trace A) : Type 0 where
    pub moments : (k : ℕ) (p : Moment × State) → slice_get t.moments k ≡ Some p → Comes (n + k) p
    pub stack : Stack
    pub there : IsThere bundle stack (n + length t.moments) t.state
    pub ends : CanEnd bound (n + length t.moments) (outcome_of t.end)

  -- before its writes
  pub arrived-there : (n : ℕ) (p : Moment × State) (c : Comes n p) → IsThere bundle c.stack (n + 1) p.1
  arrived-there n p c =
      subst (λ (p : Moment × State). IsThere bundle c.stack (n + 1) p.1) (sym c.is)
      (there-arrived bundle c.stack n c.on c.before c.there)

  -- and after writes
  pub after-writes : (ws : List NumberedWrite) (n k : ℕ) (p : Moment × State) (c : Comes n p)
      → IsThere bundle c.stack (n + 1) (written (writes_of bundle ws) k p.1)
  after-writes ws n k p c = written-there bundle ws c.stack (n + 1) k p.1 (arrived-there n p c)

  over : {A : Type 0} (n : ℕ) (d : Stack) (t : Trace A) → t.moments ≡ [] → IsThere bundle d n t.state
      → CanEnd bound n (outcome_of t.end) → Along n t
  over n d t none there ends =
      let same : n ≡ n + length t.moments = omega (arith, ap length none) in record {
        moments = λ k p e. absurd (no k p (ap (λ ps. slice_get ps k) (sym none) ∙ e));
        stack = d;
        there = subst (λ m. IsThere bundle d m t.state) same there;
        ends = subst (λ m. CanEnd bound m (outcome_of t.end)) same ends;
      }
    where
      no : (k : ℕ) (p : Moment × State) → slice_get [] k ≡ Some p → ⊥
      no k p e = cc

  module _ (ws : List NumberedWrite) where
    along : {A : Type 0} (r : Run A) (d : Stack) (n : ℕ) → Alike (facts bundle line bound) d n r r
        → Along n (trace bound (writes_of bundle ws) r)
    along (Done a s) d n h = over n d _ refl h.0 tt
    along (Over o s) d n h = over n h.0 _ refl h.1 h.2
    along {A} (At kind on s go) d n h = cases (nat_lt s.moments bound) refl (along (go t) d (n + 1) (h.2 t there))
      where
        here : IsThere bundle h.0 (n + 1) (arrived on s)
        here = there-arrived bundle h.0 n on s h.1

        t : State
        t = written (writes_of bundle ws) (s.moments + 1) (arrived on s)

        there : IsThere bundle h.0 (n + 1) t
        there = written-there bundle ws h.0 (n + 1) (s.moments + 1) (arrived on s) here

        rest : Trace A
        rest = trace bound (writes_of bundle ws) (go t)

        first : Moment × State
        first = (moment_of kind (arrived on s), arrived on s)

        one : nat_lt s.moments bound ≡ true → Comes n first
        one below = record {
          stack = h.0;
          kind = kind;
          on = on;
          before = s;
          is = refl;
          there = h.1;
          stands = h.3;
          within = omega (arith, ltb-true s.moments bound below, h.1.moments);
        }

        all : nat_lt s.moments bound ≡ true → Along (n + 1) rest → (k : ℕ) (p : Moment × State)
            → slice_get (first ∷ rest.moments) k ≡ Some p
            → Comes (n + k) p
        all below more zero p e =
            let same : first ≡ p = cc in
            let at : n ≡ n + zero = omega arith in subst (λ m. Comes m p) at (subst (Comes n) same (one below))
        all below more (suc k) p e =
            let at : n + 1 + k ≡ n + suc k = omega arith in subst (λ m. Comes m p) at (more.moments k p e)

        cases : (b : Bool) → nat_lt s.moments bound ≡ b → Along (n + 1) rest
            → Along n (if b then with_moment first.0 first.1 rest
            else (record { moments = []; end = Ended way.Bound; state = s }))
        cases true below more =
            let at : n + 1 + length rest.moments ≡ n + length (first ∷ rest.moments) = omega arith in record {
              moments = all below more;
              stack = more.stack;
              there = subst (λ m. IsThere bundle more.stack m rest.state) at more.there;
              ends = subst (λ m. CanEnd bound m (outcome_of rest.end)) at more.ends;
            }
        cases false past more = over n h.0 _ refl h.1 (omega (arith, ltb-false s.moments bound past, h.1.moments))

    -- of a program whose lines have it
    pub along-program : HaveLines (facts bundle line bound) bundle
        → Each (line main_file) (body_lines (statements_of bundle 0)) → 0 < length bundle.files
        → Along 0 (program_trace bundle bound ws)
    unfolding program_trace
    along-program lines main some =
        along (program_run bundle bound) main_file 0
        (Alike-program (facts bundle line bound) bundle (kept bundle line bound) lines bound
        (omega arith) main_file main
        (there-opening bundle some))

-- ---- states of programs

module _ (bundle : Bundle) (bound : ℕ) (ws : List NumberedWrite) (some : 0 < length bundle.files) where
  pub program-along : Along bundle (Anywhere bundle) bound 0 (program_trace bundle bound ws)
  program-along =
      along-program bundle (Anywhere bundle) bound ws (nowhere bundle bound)
      (each-all (Anywhere bundle main_file) (λ line. tt) (body_lines (statements_of bundle 0))) some

  -- where a run stops at the moment of a number
  pub stop-of : (number : ℕ) (stop : Stop) → IsStop (program_trace bundle bound ws) (writes_of bundle ws) number stop
      → IsOf bundle (state_of stop)
  stop-of zero (stop.At m s) is = absurd (cc)
  stop-of (suc k) (stop.At m s) is =
      subst (IsOf bundle) (sym is.2) (after-writes bundle (Anywhere bundle) bound ws (0 + k) (suc k) (m, is.0)
      (program-along.moments k (m, is.0) is.1)).of
  stop-of number (stop.Ended o s) is = subst (IsOf bundle) (sym is.2) program-along.there.of

-- ---- any program, also one without files

module _ (bundle : Bundle) (bound : ℕ) (ws : List NumberedWrite) where
  abbrev whole : Trace Signal
  whole = program_trace bundle bound ws

  -- a bundle without files has nothing to run
  pub nothing : slice_get bundle.files 0 ≡ None
      → whole ≡ record { moments = []; end = Gave Next; state = opening bundle }
  unfolding program_trace program_run
  nothing e =
      ap (λ (o : Option BundleFile). trace bound (writes_of bundle ws) (body_run (option_map_or (λ f. f.tree.body) o [])
      (setting_of bundle bound frame_limit) (opening bundle))) e

  -- so many moments has the state at the end had, and the bound ends it where there are as many
  IsCounted : Trace Signal → Type 0
  IsCounted t = (t.state.moments ≡ length t.moments) × CanEnd bound (length t.moments) (outcome_of t.end)

  counted : IsCounted whole
  unfolding IsCounted
  counted = go (slice_get bundle.files 0) refl
    where
      go : (o : Option BundleFile) → slice_get bundle.files 0 ≡ o → IsCounted whole
      go None none = subst IsCounted (sym (nothing none)) (refl, tt)
      go (Some f) is =
          let all = program-along bundle bound ws (within-found bundle.files 0 f is) in
          let same : 0 + length whole.moments ≡ length whole.moments = omega arith in
          (all.there.moments ∙ same, subst (λ n. CanEnd bound n (outcome_of whole.end)) same all.ends)

  pub counted-at-end : whole.state.moments ≡ length whole.moments
  unfolding IsCounted
  counted-at-end = counted.0

  -- it ends as a program can
  pub can-end : CanEnd bound (length whole.moments) (outcome bundle bound ws)
  unfolding IsCounted
  can-end = counted.1
