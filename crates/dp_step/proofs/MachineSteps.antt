-- A step of a machine is a step of the program that it stands for.
use Rattle.std.proofs.Common.{◌≡◌, ℕ, zero, suc, ◌<◌, false, List, [], ◌∷◌, Option, Some, None, refl, sym, ap, ◌∙◌, subst, arith}
use Rattle.std.proofs.lemmas.Bool.{ne_eqb}
use Rattle.std.specs.Prelude.{nat_eq, option_map, slice_get}
use Rattle.dp_tree.specs.declared.bundle.Bundle.{Bundle}
use Rattle.dp_state.specs.declared.moments.Moment.{Moment}
use Rattle.dp_state.specs.declared.state.State.{State}
use Rattle.dp_state.specs.declared.moments.MomentKind.{MomentKind}
use Rattle.dp_state.specs.declared.moments.Outcome.{Outcome}
use Rattle.dp_state.specs.States.{frame_limit, opening}
use Rattle.dp_actions.specs.declared.signal.Signal.{Signal}
use Rattle.dp_meaning.specs.declared.writes.NumberedWrite.{NumberedWrite}
use Rattle.dp_meaning.specs.Programs.{program_run, setting_of}
use Rattle.dp_actions.specs.Bodies.{statements_of}
use Rattle.dp_actions.specs.Run.{Run, Done, Over, At, and_then}
use Rattle.dp_actions.specs.Setting.{Setting}
use Rattle.dp_actions.specs.Statements.{body_run}
use Rattle.dp_meaning.specs.Stops.{following}
use Rattle.dp_meaning.specs.Trace.{Trace, outcome_of, program_trace, trace}
use Rattle.dp_meaning.specs.Writes.{Writes, written, written_by, writes_of}
use Rattle.dp_meaning.proofs.Steady.{IsSteady, steady-program}
use Rattle.dp_actions.proofs.Runs.{and_then-Done}
use Rattle.dp_step.specs.declared.machine.Arrival.TheVariants as arrival
use Rattle.dp_step.specs.declared.machine.Machine.{Machine}
use Rattle.dp_step.specs.declared.machine.Progress.{Progress}
use Rattle.dp_step.specs.declared.machine.Progress.TheVariants as progress
use Rattle.dp_small_steps.specs.Parts.{to_signal}
use Rattle.dp_step.specs.Stands.{ComesTo, EndsWith, GoesOn, NoneAbove, StandsFor, pending_rest, rest_of}
use Rattle.dp_step.specs.inner.Moves.{Arrives, Comes, IsOver}
use Rattle.dp_step.proofs.Courses.{first-following, first-moment, goes_past, none-in-bound}

-- the member of a list whose image is there
pub of_image : {A B : Type 0} (f : A → B) (o : Option A) (b : B) → option_map f o ≡ Some b
    → (a : A) × (o ≡ Some a) × (f a ≡ b)
of_image f None b e = absurd (cc)
of_image f (Some a) b e = let same : f a ≡ b = cc in (a, refl, same)

module _ (bundle : Bundle) (bound : ℕ) (writes : List NumberedWrite) where
  abbrev ws : Writes
  ws = writes_of bundle writes

  abbrev whole : Run Signal
  whole = program_run bundle bound

  -- what the program does from the moment of a number on
  pub record Onward (n : ℕ) (later : Run Signal) : Type 0 where
    pub next : slice_get (trace bound ws whole).moments n ≡ slice_get (trace bound ws later).moments 0
    pub after : following bound ws whole (suc n) ≡ following bound ws later (suc n)
    pub end : (trace bound ws whole).end ≡ (trace bound ws later).end
    pub state : (trace bound ws whole).state ≡ (trace bound ws later).state
    pub steady : IsSteady n later

  pub onward : (n : ℕ) (old : Machine) → StandsFor bundle bound writes n old → Onward n (rest_of old old.state)
  unfolding program_run program_trace
  onward zero old stands =
      let same : opening bundle ≡ old.state = let e = stands.state in cc in
      let is : whole ≡ rest_of old old.state = (λ i. sym stands.rest.1 i (opening bundle))
      ∙ stands.rest.2 (opening bundle) ∙ ap (rest_of old) same in
      subst (Onward zero) is (record {
        next = refl;
        after = refl;
        end = refl;
        state = refl;
        steady = steady-program
            bundle bound;
      })
  onward (suc m) old stands =
      let found = of_image _ _ _ stands.state in
      let past = goes_past bound ws whole 0 m (suc m) stands.rest.0 found.0 (steady-program bundle bound)
      (omega arith) stands.rest.1 found.1 in
      let is = stands.rest.2 (written ws (suc m) found.0.1) ∙ ap (rest_of old) found.2 in
      subst (Onward (suc m)) is (record {
        next = past.next;
        after = past.after;
        end = past.end;
        state = past.state;
        steady = past.steady;
      })

-- ---- a step

pub raised : (n : ℕ) (writes : List NumberedWrite) → NoneAbove n writes → NoneAbove (suc n) writes
raised n [] h = tt
raised n (w ∷ ws) h = (omega (arith, h.0), raised n ws h.1)

-- above the number of the last of them nothing is written
pub nothing-by : (setting : Setting) (n : ℕ) (writes : List NumberedWrite) (s : State) → NoneAbove n writes
    → written_by setting writes (suc n) s ≡ s
nothing-by setting n [] s h = refl
nothing-by setting n (w ∷ ws) s h =
    let off : nat_eq w.moment (suc n) ≡ false = ne_eqb _ _ (λ x. omega (arith, h.0)) in
    rw off (nothing-by setting n ws s h.1)

-- the trace of a run that is over
over-trace : (bound : ℕ) (ws : Writes) (r : Run Signal) (o : Outcome) (t : State) → IsOver r o t
    → (slice_get (trace bound ws r).moments 0 ≡ None) × (o ≡ outcome_of (trace bound ws r).end)
    × (t ≡ (trace bound ws r).state)
over-trace bound ws (Done a s) o t h = (refl, h.0, h.1)
over-trace bound ws (Over p s) o t h = (refl, h.0, h.1)
over-trace bound ws (At kind line s go) o t h = absurd h

module _ (bundle : Bundle) (bound : ℕ) (writes : List NumberedWrite) (n : ℕ) (old mid new : Machine)
    (stands : StandsFor bundle bound writes n old) where
  abbrev later : Run Signal
  later = rest_of old old.state

  -- the end of the program
  pub ends-with : (o : Outcome) → Arrives old later (arrival.End o) mid → new.state ≡ mid.state
      → EndsWith bundle bound writes n o new
  unfolding program_run program_trace
  ends-with o arrives same =
      let on = onward bundle bound writes n old stands in
      let over = over-trace bound (writes_of bundle writes) later o mid.state arrives.by in
      (on.next ∙ over.0, over.1 ∙ sym (ap outcome_of on.end), same ∙ over.2 ∙ sym on.state)

  module _ (kind : MomentKind) (line : ℕ) (arrives : Arrives old later (arrival.Moment kind line) mid) where
    same-bound : mid.bound ≡ bound
    same-bound = arrives.same_bound ∙ stands.same_bound

    -- a moment beyond the bound
    pub ends-bound : (o : Outcome) → Comes kind line mid (progress.Ended o) new → EndsWith bundle bound writes n o new
    unfolding program_run program_trace
    ends-bound o comes =
        let on = onward bundle bound writes n old stands in
        let none = none-in-bound bound (writes_of bundle writes) later n on.steady kind line mid.state
        (rest_of mid) arrives.by
        (omega (arith, comes.by.0, same-bound)) in (
          on.next ∙ ap (λ (t : Trace Signal). slice_get t.moments 0) none,
          comes.by.1 ∙ sym (ap outcome_of (on.end ∙ ap (λ (t : Trace Signal). t.end) none)),
          comes.by.2 ∙ sym (on.state ∙ ap (λ (t : Trace Signal). t.state) none),
        )

    -- a moment
    pub comes-to : (at : Moment) → Comes kind line mid (progress.At at) new → ComesTo bundle bound writes n at new
    unfolding program_run program_trace
    comes-to at comes =
        let on = onward bundle bound writes n old stands in
        let less : mid.state.moments < bound = omega (arith, comes.by.0, same-bound) in
        let first = first-moment bound (writes_of bundle writes) later n on.steady kind line mid.state
        (rest_of mid) arrives.by less in
        let found : slice_get (trace bound (writes_of bundle writes) (program_run bundle bound)).moments n ≡ Some
        (at, new.state) =
        on.next ∙ first ∙ (λ i. Some (sym comes.by.1 i, sym comes.by.2 i)) in (
          found,
          record {
            same_bundle = comes.same_bundle ∙ arrives.same_bundle ∙ stands.same_bundle;
            same_bound = comes.same_bound ∙ same-bound;
            none_above = raised n writes stands.none_above;
            state = ap (option_map (λ (p : Moment × State). written (writes_of bundle writes) (suc n) p.1)) found
                ∙ ap Some (nothing-by (writes_of bundle writes).setting n writes new.state stands.none_above);
            rest = (
              rest_of mid,
              on.after ∙ first-following bound (writes_of bundle writes) later n on.steady kind line mid.state
                  (rest_of mid) arrives.by less,
              λ s. sym (comes.by.3 s),
            );
          },
        )

    pub goes-on : (came : Progress) → Comes kind line mid came new → GoesOn bundle bound writes n came new
    goes-on (progress.At at) comes = comes-to at comes
    goes-on (progress.Ended o) comes = ends-bound o comes

-- the machine that starts
pub starts : (bundle : Bundle) (bound : ℕ) (m : Machine) → m.bundle.now ≡ bundle → m.bound ≡ bound
    → m.state ≡ opening bundle
    → ((s : State) → body_run (statements_of bundle 0) (setting_of bundle bound frame_limit) s ≡ rest_of m s)
    → StandsFor bundle bound [] 0 m
starts bundle bound m same limit state rest = record {
  same_bundle = same;
  same_bound = limit;
  none_above = tt;
  state = ap Some (sym state);
  rest = (body_run (statements_of bundle 0) (setting_of bundle bound frame_limit), refl, rest);
}

-- statements in hand, with nothing pending
pub all-done : (bundle : Bundle) (bound depth : ℕ) (r : Run Signal)
    → and_then r (to_signal (pending_rest bundle bound depth [])) ≡ r
all-done bundle bound depth r = and_then-Done r
