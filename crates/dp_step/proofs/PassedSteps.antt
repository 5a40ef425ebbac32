-- A machine that passes moments goes past those of the program that it stands for.
use Rattle.std.proofs.Common.{◌≡◌, ℕ, zero, suc, ◌+◌, ◌-◌, ◌<◌, ◌≤◌, Bool, List, length, Some, None, refl, sym, ap, ◌∙◌, subst, arith}
use Rattle.std.proofs.lemmas.Option.{slice_get_within}
use Rattle.std.specs.Prelude.{option_map, slice_get}
use Rattle.dp_tree.specs.declared.bundle.Bundle.{Bundle}
use Rattle.dp_state.specs.declared.moments.Moment.{Moment}
use Rattle.dp_state.specs.declared.moments.MomentKind.{MomentKind}
use Rattle.dp_state.specs.declared.moments.Outcome.{Outcome}
use Rattle.dp_state.specs.declared.state.State.{State}
use Rattle.dp_actions.specs.declared.signal.Signal.{Signal}
use Rattle.dp_actions.specs.Run.{Run, Done, Over, At}
use Rattle.dp_meaning.specs.declared.writes.NumberedWrite.{NumberedWrite}
use Rattle.dp_meaning.specs.Programs.{program_run}
use Rattle.dp_meaning.specs.Trace.{Trace, moment_at, moment_of, outcome_of, program_trace, trace}
use Rattle.dp_meaning.specs.Writes.{Writes, arrived, written, writes_of}
use Rattle.dp_meaning.proofs.Steady.{IsSteady, steady-program}
use Rattle.dp_step.specs.declared.machine.Arrival.{Arrival}
use Rattle.dp_step.specs.declared.machine.Arrival.TheVariants as arrival
use Rattle.dp_step.specs.declared.machine.Machine.{Machine}
use Rattle.dp_step.specs.declared.machine.Progress.{Progress}
use Rattle.dp_step.specs.declared.machine.Progress.TheVariants as progress
use Rattle.dp_step.specs.Past.{ArePassed, GoesPast}
use Rattle.dp_step.specs.Stands.{ComesTo, EndsWith, GoesOn, NoneAbove, StandsFor, rest_of, steps_of}
use Rattle.dp_step.specs.inner.Moves.{Comes}
use Rattle.dp_step.specs.inner.Passing.{ComesBehind, Gets, IsOverBy, LeadsTo, Passes}
use Rattle.dp_step.proofs.Courses.{first-following, first-moment, goes_past, none-in-bound}
use Rattle.dp_step.proofs.LastMoments.{past-all}
use Rattle.dp_step.proofs.LeapLaws.{all-counted}
use Rattle.dp_step.proofs.MachineSteps.{Onward, nothing-by, of_image, onward, raised}
use Rattle.dp_step.proofs.WritesMade.{number-is}

module _ (lines : List ℕ) (calls : Bool) (bundle : Bundle) (bound : ℕ) (writes : List NumberedWrite) where
  abbrev ws : Writes
  ws = writes_of bundle writes

  abbrev whole : Trace Signal
  whole = program_trace bundle bound writes

  abbrev On : ℕ → Run Signal → Type 0
  On n r = Onward bundle bound writes n r

  -- past its first moment
  step-over : (n : ℕ) (kind : MomentKind) (line : ℕ) (s : State) (go : State → Run Signal) → On n (At kind line s go)
      → NoneAbove n writes → s.moments < bound
      → On (suc n) (go (arrived line s))
      × (moment_at whole (suc n) ≡ Some (moment_of kind (arrived line s), arrived line s))
  unfolding program_run program_trace
  step-over n kind line s go on none less =
      let found = on.next
      ∙ first-moment bound ws (At kind line s go) n on.steady kind line s go refl less in
      let follows = on.after
      ∙ first-following bound ws (At kind line s go) n on.steady kind line s go refl less in
      let past = goes_past bound ws (program_run bundle bound) 0 n (suc n) go
      (moment_of kind (arrived line s), arrived line s) (steady-program bundle bound) (omega arith) follows found in
      let later : On (suc n) (go (written ws (suc n) (arrived line s))) = record {
        next = past.next;
        after = past.after;
        end = past.end;
        state = past.state;
        steady = past.steady;
      } in (
        subst (On (suc n)) (ap go (nothing-by ws.setting n writes (arrived line s) none)) later,
        found,
      )

  -- past all that are passed
  over : (k n : ℕ) (r l : Run Signal) → On n r → NoneAbove n writes → Passes lines calls bound r k l
      → On (n + k) l × NoneAbove (n + k) writes × ArePassed lines calls whole n k
  over zero n r l on none p =
      let e : n ≡ n + 0 = omega arith in
      (subst (λ m. On m l) e (subst (On n) p on), subst (λ m. NoneAbove m writes) e none, tt)
  over (suc k) n (Done a s) l on none p = absurd p
  over (suc k) n (Over o s) l on none p = absurd p
  over (suc k) n (At kind line s go) l on none p =
      let one = step-over n kind line s go on none p.0 in
      let more = over k (suc n) (go (arrived line s)) l one.0 (raised n writes none) p.2 in
      let e : suc n + k ≡ n + suc k = omega arith in (
        subst (λ m. On m l) e more.0,
        subst (λ m. NoneAbove m writes) e more.1,
        (((moment_of kind (arrived line s), arrived line s), one.1, p.1), more.2),
      )

  -- ---- the moment behind them, or the end

  over-trace : (n : ℕ) (r : Run Signal) (o : Outcome) (t : State) → IsSteady n r → IsOverBy bound r o t
      → (slice_get (trace bound ws r).moments 0 ≡ None) × (o ≡ outcome_of (trace bound ws r).end)
      × (t ≡ (trace bound ws r).state)
  over-trace n (Done a s) o t steady h = (refl, h.0, h.1)
  over-trace n (Over p s) o t steady h = (refl, h.0, h.1)
  over-trace n (At kind line s go) o t steady h =
      let none = none-in-bound bound ws (At kind line s go) n steady kind line s go refl h.0 in (
        ap (λ (w : Trace Signal). slice_get w.moments 0) none,
        h.1 ∙ sym (ap (λ (w : Trace Signal). outcome_of w.end) none),
        h.2 ∙ sym (ap (λ (w : Trace Signal). w.state) none),
      )

  module _ (n : ℕ) (run : Run Signal) (on : On n run) (none : NoneAbove n writes) (mid new : Machine)
      (same_bundle : mid.bundle.now ≡ bundle) (same_bound : mid.bound ≡ bound) where
    ends-with : (o : Outcome) → IsOverBy bound run o mid.state → new.state ≡ mid.state
        → EndsWith bundle bound writes n o new
    unfolding program_run program_trace
    ends-with o h same =
        let over = over-trace n run o mid.state on.steady h in
        (on.next ∙ over.0, over.1 ∙ sym (ap outcome_of on.end), same ∙ over.2 ∙ sym on.state)

    module _ (kind : MomentKind) (line : ℕ) (by : run ≡ At kind line mid.state (rest_of mid)) where
      ends-bound : (o : Outcome) → Comes kind line mid (progress.Ended o) new → EndsWith bundle bound writes n o new
      unfolding program_run program_trace
      ends-bound o comes =
          let none = none-in-bound bound ws run n on.steady kind line mid.state (rest_of mid) by
          (omega (arith, comes.by.0, same_bound)) in (
            on.next ∙ ap (λ (t : Trace Signal). slice_get t.moments 0) none,
            comes.by.1 ∙ sym (ap outcome_of (on.end ∙ ap (λ (t : Trace Signal). t.end) none)),
            comes.by.2 ∙ sym (on.state ∙ ap (λ (t : Trace Signal). t.state) none),
          )

      comes-to : (at : Moment) → Comes kind line mid (progress.At at) new → ComesTo bundle bound writes n at new
      unfolding program_run program_trace
      comes-to at comes =
          let less : mid.state.moments < bound = omega (arith, comes.by.0, same_bound) in
          let first = first-moment bound ws run n on.steady kind line mid.state (rest_of mid) by less in
          let found : slice_get (trace bound ws (program_run bundle bound)).moments n ≡ Some (at, new.state) =
          on.next ∙ first ∙ (λ i. Some (sym comes.by.1 i, sym comes.by.2 i)) in (
            found,
            record {
              same_bundle = comes.same_bundle ∙ same_bundle;
              same_bound = comes.same_bound ∙ same_bound;
              none_above = raised n writes none;
              state = ap (option_map (λ (p : Moment × State). written ws (suc n) p.1)) found
                  ∙ ap Some (nothing-by ws.setting n writes new.state none);
              rest = (
                rest_of mid,
                on.after ∙ first-following bound ws run n on.steady kind line mid.state (rest_of mid) by less,
                λ s. sym (comes.by.3 s),
              );
            },
          )

      comes-on : (came : Progress) → Comes kind line mid came new → GoesOn bundle bound writes n came new
      comes-on (progress.At at) comes = comes-to at comes
      comes-on (progress.Ended o) comes = ends-bound o comes

    behind : (at : Arrival) (came : Progress) → LeadsTo bound run at mid → ComesBehind at mid came new
        → GoesOn bundle bound writes n came new
    behind (arrival.Moment kind line) came leads comes = comes-on kind line leads came comes
    behind (arrival.End o) came leads comes =
        subst (λ (p : Progress). GoesOn bundle bound writes n p new) (sym comes.0) (ends-with o leads comes.1)

  -- ---- how many there are

  within-start : (n : ℕ) (m : Machine) → StandsFor bundle bound writes n m → n ≤ length whole.moments
  within-start zero m stands = omega arith
  within-start (suc k) m stands =
      let found = of_image _ _ _ stands.state in
      let long = slice_get_within whole.moments k found.0 found.1 in omega (arith, long)

  within : (k n : ℕ) → n ≤ length whole.moments → ArePassed lines calls whole n k → n + k ≤ length whole.moments
  within zero n h passed = omega (arith, h)
  within (suc k) n h passed =
      let long = slice_get_within whole.moments n passed.0.0 passed.0.1 in
      let next : suc n ≤ length whole.moments = omega (arith, long) in
      let more = within k (suc n) next passed.1 in omega (arith, more)

  all-are : whole.state.moments ≡ length whole.moments
  unfolding program_trace
  all-are = all-counted bundle bound writes 0 (program_run bundle bound) (steady-program bundle bound) ∙ omega arith

  counts : (n k : ℕ) (old new : Machine) (came : Progress) → StandsFor bundle bound writes n old
      → ArePassed lines calls whole n k → GoesOn bundle bound writes (n + k) came new → (begun after : ℕ)
      → after ≡ begun + (new.state.moments - old.state.moments) → after ≡ begun + k + steps_of came
  counts n k old new (progress.At moment) stands passed goes begun after told =
      let first = number-is bundle bound writes n old stands in
      let last = number-is bundle bound writes (suc (n + k)) new goes.1 in omega (arith, told, first, last)
  counts n k old new (progress.Ended o) stands passed goes begun after told =
      let first = number-is bundle bound writes n old stands in
      let last = ap (λ (s : State). s.moments) goes.2 ∙ all-are in
      let most = within k n (within-start n old stands) passed in
      let least = past-all (n + k) whole.moments goes.0 in omega (arith, told, first, last, most, least)

  -- ---- the whole way

  pub goes-past : (n : ℕ) (old new : Machine) (came : Progress) → StandsFor bundle bound writes n old
      → Gets lines calls old came new → (begun after : ℕ) → after ≡ begun + (new.state.moments - old.state.moments)
      → GoesPast lines calls bundle bound writes n came new begun after
  goes-past n old new came stands gets begun after told =
      let way = gets.approaches in
      let passes = subst (λ (b : ℕ). Passes lines calls b (rest_of old old.state) way.over way.later) stands.same_bound
      way.passes in
      let leads = subst (λ (b : ℕ). LeadsTo b way.later gets.arrival gets.mid) stands.same_bound way.leads in
      let past = over way.over n (rest_of old old.state) way.later (onward bundle bound writes n old stands)
      stands.none_above passes in
      let goes = behind (n + way.over) way.later past.0 past.1 gets.mid new
      (way.same_bundle ∙ stands.same_bundle) (way.same_bound ∙ stands.same_bound) gets.arrival came leads gets.comes in
      record {
        over = way.over;
        passed = past.2;
        goes_on = goes;
        counted = counts n way.over old new came stands past.2 goes begun after told;
      }
