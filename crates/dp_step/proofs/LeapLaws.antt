-- A machine that nothing stops comes to the end of its program.
use Rattle.std.proofs.Common.{◌≡◌, ℕ, zero, suc, ◌+◌, ◌-◌, ◌≤◌, Bool, true, false, List, [], length, arith}
use Rattle.std.proofs.Common.{Option, Some, None, Ok, Err, refl, sym, ap, ◌∙◌, subst}
use Rattle.std.proofs.lemmas.Bool.{le-ltb, lt-ltb}
use Rattle.std.proofs.lemmas.Option.{slice_get_within}
use Rattle.std.specs.Prelude.{if◌then◌else◌, nat_lt}
use Rattle.dp_tree.specs.declared.bundle.Bundle.{Bundle}
use Rattle.dp_state.specs.declared.moments.Moment.{Moment}
use Rattle.dp_state.specs.declared.moments.MomentKind.{MomentKind}
use Rattle.dp_state.specs.declared.moments.Outcome.{Outcome}
use Rattle.dp_state.specs.declared.moments.Outcome.TheVariants as way
use Rattle.dp_state.specs.declared.state.State.{State}
use Rattle.dp_actions.specs.declared.halt.Halt.TheVariants as halt
use Rattle.dp_actions.specs.declared.signal.Signal.{Signal}
use Rattle.dp_actions.specs.Expressions.{evaluations}
use Rattle.dp_actions.specs.Loops.{turns}
use Rattle.dp_actions.specs.Run.{Run, Done, Over, At, ◌>>=◌}
use Rattle.dp_actions.specs.Setting.{Part}
use Rattle.dp_meaning.specs.declared.stop.Stop.TheVariants as stop
use Rattle.dp_meaning.specs.declared.writes.NumberedWrite.{NumberedWrite}
use Rattle.dp_meaning.specs.inner.Drive.{Ends, Reached, drive, only_bounded, stopped}
use Rattle.dp_meaning.specs.Programs.{program_run}
use Rattle.dp_actions.specs.Statements.{statement_run}
use Rattle.dp_meaning.specs.Trace.{End, Ended, Gave, Trace, moment_of, outcome, outcome_of, program_trace}
use Rattle.dp_meaning.specs.Trace.{trace, with_moment}
use Rattle.dp_meaning.specs.Writes.{Writes, arrived, written, writes_of}
use Rattle.dp_meaning.proofs.Drives.{carry, drive-and_then}
use Rattle.dp_meaning.proofs.Steady.{IsSteady, steady-program}
use Rattle.dp_meaning.proofs.Wholes.{come_to, meets}
use Rattle.dp_meaning.proofs.WrittenMoments.{moments-written}
use Rattle.dp_small_steps.specs.declared.work.Given.TheVariants as given
use Rattle.dp_small_steps.specs.Parts.{to_signal}
use Rattle.dp_step.specs.declared.machine.Came.TheVariants as came
use Rattle.dp_step.specs.declared.machine.Machine.{Machine}
use Rattle.dp_step.specs.declared.machine.Progress.TheVariants as progress
use Rattle.dp_small_steps.specs.declared.work.Hand.{Hand}
use Rattle.dp_small_steps.specs.declared.work.Head.{Head}
use Rattle.dp_small_steps.specs.declared.work.Turns.{Turns}
use Rattle.dp_small_steps.specs.declared.work.Hand.TheVariants as hand
use Rattle.dp_step.specs.inner.Leaps.{HasRun, Leaps, LeapsBy, RunsOut, driven, part_with}
use Rattle.dp_step.specs.inner.Moves.{Comes, IsOver, Moves, follows_of, rest_with, setting_at}
use Rattle.dp_small_steps.specs.Rest.{after_of, tests_of}
use Rattle.dp_step.specs.Stands.{NoneAbove, StandsFor, rest_of}
use Rattle.dp_step.proofs.Smalls.{rest-by}
use Rattle.dp_step.proofs.MachineSteps.{nothing-by, of_image, onward, raised}
use Rattle.dp_step.proofs.WritesMade.{number-is}

-- ---- a run that is the same

pub leaps_as : (old mid new : Machine) (run same : Run Signal) (end : Option Outcome) → run ≡ same
    → mid.bound ≡ old.bound
    → Leaps mid same end new → Leaps old run end new
leaps_as old mid new run same end e bound leaps = record {
  by = subst (λ (r : Run Signal). LeapsBy old r end new) (sym e) (by end leaps.by);
  same_bound = leaps.same_bound ∙ bound;
}
  where
    by : (end : Option Outcome) → LeapsBy mid same end new → LeapsBy old same end new
    by None h = ap (λ (n : ℕ). drive (only_bounded n) same) (sym bound) ∙ h
    by (Some o) h = ap (λ (n : ℕ). stopped (drive (only_bounded n) same)) (sym bound) ∙ h

-- what is in hand
pub leaps_hand : (m mid new : Machine) (h : Hand) (end : Option Outcome) → m.hand ≡ h → mid.bound ≡ m.bound
    → Leaps mid (rest_with m h m.state) end new → Leaps m (rest_of m m.state) end new
unfolding rest_of
leaps_hand m mid new h end e bound leaps =
    leaps_as m mid new _ _ end (ap (λ (x : Hand). rest_with m x m.state) e) bound leaps

-- what was put in hand
pub leaps_put : (m mid new : Machine) (h : Hand) (end : Option Outcome) → mid.bundle.now ≡ m.bundle.now
    → mid.bound ≡ m.bound → mid.depth ≡ m.depth
    → mid.hand ≡ h → mid.pending.items ≡ m.pending.items → mid.state ≡ m.state
    → Leaps mid (rest_of mid mid.state) end new → Leaps m (rest_with m h m.state) end new
leaps_put m mid new h end bundle bound depth in-hand items state leaps =
    leaps_as m mid new _ _ end (sym (rest-by mid m.bundle.now m.bound m.depth h m.pending.items
    bundle bound depth in-hand items m.state) ∙ ap (rest_of mid) (sym state)) bound leaps

-- turns, by their head
pub turns-by : (m : Machine) (loop : Turns) (left : ℕ) (head : Head) → loop.head ≡ head
    → rest_with m (hand.Turn loop left) m.state ≡ (turns left loop.line (evaluations (tests_of head) (setting_at m))
    (evaluations (after_of head) (setting_at m))
    (statement_run loop.body.now (setting_at m)) m.state >>= to_signal (follows_of m))
turns-by m loop left head e =
    ap (λ (h : Head). turns left loop.line (evaluations (tests_of h) (setting_at m)) (evaluations (after_of h)
    (setting_at m))
    (statement_run loop.body.now (setting_at m)) m.state >>= to_signal (follows_of m)) e

-- ---- a part that has run whole

module _ (m : Machine) (whole : Part Signal) (s : State) where
  -- what it gave is in hand
  pub gives-on : (g : Signal) (new : Machine) → HasRun m whole (Ok g) s → new.bundle.now ≡ m.bundle.now
      → new.bound ≡ m.bound → new.depth ≡ m.depth
      → new.hand ≡ hand.Give (given.Signal g) → new.pending.items ≡ m.pending.items → new.state ≡ m.state
      → Leaps m (part_with m whole s) None new
  gives-on g new ran bundle bound depth in-hand items state = record {
    by =
        drive-and_then (only_bounded m.bound) (whole (setting_at m) s) (to_signal (follows_of m))
        ∙ ap (λ (r : Reached Signal). carry (only_bounded m.bound) r (to_signal (follows_of m)))
        (meets m.bound (writes_of m.bundle.now []) refl (whole (setting_at m) s) (Ok g) m.state ran.by)
        ∙ ap (drive (only_bounded m.bound)) (sym (rest-by new m.bundle.now m.bound m.depth (hand.Give
        (given.Signal g)) m.pending.items
        bundle bound depth in-hand items m.state))
        ∙ (λ i. drive (only_bounded (sym bound i)) (rest_of new (sym state i)));
    same_bound = bound;
  }

  -- it ended the program
  pub ends-there : (o : Outcome) → HasRun m whole (Err (halt.Finished o)) s → Leaps m (part_with m whole s) (Some o) m
  ends-there o ran = record {
    by =
        ap stopped (drive-and_then (only_bounded m.bound) (whole (setting_at m) s) (to_signal (follows_of m))
        ∙ ap (λ (r : Reached Signal). carry (only_bounded m.bound) r (to_signal (follows_of m)))
        (meets m.bound (writes_of m.bundle.now []) refl (whole (setting_at m) s) (Err
        (halt.Finished o)) m.state ran.by));
    same_bound = refl;
  }

-- ---- a small step

over-stops : (n : ℕ) (run : Run Signal) (o : Outcome) (t : State) → IsOver run o t
    → stopped (drive (only_bounded n) run) ≡ stop.Ended o t
over-stops n (Done g s) o t h = λ i. stop.Ended (sym h.0 i) (sym h.1 i)
over-stops n (Over p s) o t h = λ i. stop.Ended (sym h.0 i) (sym h.1 i)
over-stops n (At kind line s go) o t h = absurd h

module _ (old mid : Machine) (run : Run Signal) where
  pub small-on : Moves old run came.On mid → Leaps old run None mid
  small-on moves = record {
    by = ap (drive (only_bounded old.bound)) moves.by ∙ ap (λ (n : ℕ). drive (only_bounded n) (rest_of mid mid.state))
        (sym moves.same_bound);
    same_bound = moves.same_bound;
  }

  pub small-over : (o : Outcome) → IsOver run o mid.state → mid.bound ≡ old.bound → Leaps old run (Some o) mid
  small-over o over bound = record { by = over-stops old.bound run o mid.state over; same_bound = bound }

  module _ (kind : MomentKind) (line : ℕ) (new : Machine) (goes : Moves old run (came.Moment kind line) mid) where
    at-moment : driven old run ≡ drive (only_bounded mid.bound) (At kind line mid.state (rest_of mid))
    at-moment = λ i. drive (only_bounded (sym goes.same_bound i)) (goes.by i)

    -- which comes, and is passed
    pub moment-on : (moment : Moment) → Comes kind line mid (progress.At moment) new → Leaps old run None new
    moment-on moment comes = record {
      by =
          at-moment
          ∙ ap (λ (b : Bool). if b then drive (only_bounded mid.bound) (rest_of mid
          (arrived line mid.state)) else Ends way.Bound mid.state)
          (lt-ltb _ _ comes.by.0)
          ∙ ap (λ (t : State). drive (only_bounded mid.bound) (rest_of mid t)) (sym comes.by.2)
          ∙ ap (drive (only_bounded mid.bound)) (sym (comes.by.3 new.state))
          ∙ ap (λ (n : ℕ). drive (only_bounded n) (rest_of new new.state)) (sym comes.same_bound);
      same_bound = comes.same_bound ∙ goes.same_bound;
    }

    -- which is beyond the bound
    pub moment-over : (o : Outcome) → Comes kind line mid (progress.Ended o) new → Leaps old run (Some o) new
    moment-over o comes = record {
      by =
          ap stopped (at-moment
          ∙ ap (λ (b : Bool). if b then drive (only_bounded mid.bound) (rest_of mid
          (arrived line mid.state)) else Ends way.Bound mid.state)
          (le-ltb _ _ comes.by.0))
          ∙ (λ i. stop.Ended (sym comes.by.1 i) (sym comes.by.2 i));
      same_bound = comes.same_bound ∙ goes.same_bound;
    }

-- ---- all of them

module _ (start mid new : Machine) (run : Run Signal) (way : driven start run ≡ driven mid (rest_of mid mid.state))
    (bound : mid.bound ≡ start.bound) where
  pub leap-on : Leaps mid (rest_of mid mid.state) None new → driven start run ≡ driven new (rest_of new new.state)
  leap-on leaps = way ∙ leaps.by

  pub leap-out : (o : Outcome) → Leaps mid (rest_of mid mid.state) (Some o) new → RunsOut start run o new
  leap-out o leaps = ap stopped way ∙ leaps.by

-- ---- the end of the program

module _ (bundle : Bundle) (bound : ℕ) (writes : List NumberedWrite) where
  abbrev ws : Writes
  ws = writes_of bundle writes

  -- past the last of the writes nothing is written
  drive-past : {A : Type 0} (n : ℕ) (r : Run A) → IsSteady n r → NoneAbove n writes
      → drive (only_bounded bound) r ≡ come_to (trace bound ws r).end (trace bound ws r).state
  drive-past n (Done a s) steady none = refl
  drive-past n (Over o s) steady none = refl
  drive-past {A} n (At kind line s go) steady none =
      cases (nat_lt s.moments bound) (drive-past (suc n) (go (arrived line s))
      (subst (λ (k : ℕ). IsSteady k (go (arrived line s))) more (steady.2 (arrived line s)
      (ap (λ (k : ℕ). k + 1) steady.1))) (raised n writes none))
    where
      more : n + 1 ≡ suc n
      more = omega arith

      same : written ws (s.moments + 1) (arrived line s) ≡ arrived line s
      same = ap (λ (k : ℕ). written ws k (arrived line s)) (ap (λ (k : ℕ). k + 1) steady.1 ∙ more)
          ∙ nothing-by ws.setting n writes (arrived line s) none

      cases : (b : Bool) → drive (only_bounded bound) (go (arrived line s)) ≡ come_to (trace bound ws (go
          (arrived line s))).end (trace bound ws (go (arrived line s))).state
          → (if b then drive (only_bounded bound) (go (arrived line s)) else Ends way.Bound s)
          ≡ (let whole : Trace A = if b
          then with_moment (moment_of kind (arrived line s)) (arrived line s) (trace bound ws (go (written ws
          (s.moments + 1) (arrived line s))))
          else (record { moments = []; end = Ended way.Bound; state = s }) in come_to whole.end whole.state)
      cases true ih = rw same ih
      cases false ih = refl

  -- the last state has counted all moments
  pub all-counted : {A : Type 0} (n : ℕ) (r : Run A) → IsSteady n r → (trace bound ws r).state.moments ≡ n + length
      (trace bound ws r).moments
  all-counted n (Done a s) steady = steady ∙ omega arith
  all-counted n (Over o s) steady = steady.1 ∙ omega arith
  all-counted {A} n (At kind line s go) steady = cases (nat_lt s.moments bound) (all-counted (n + 1) (go t)
      (steady.2 t there))
    where
      t : State
      t = written ws (s.moments + 1) (arrived line s)

      there : t.moments ≡ n + 1
      there = moments-written ws (s.moments + 1) (arrived line s) ∙ ap (λ (k : ℕ). k + 1) steady.1

      cases : (b : Bool) → (trace bound ws (go t)).state.moments ≡ n + 1 + length (trace bound ws (go t)).moments
          → (let whole : Trace A = if b then with_moment (moment_of kind (arrived line s)) (arrived line s)
          (trace bound ws (go t))
          else (record { moments = []; end = Ended way.Bound; state = s }) in whole.state.moments
          ≡ n + length whole.moments)
      cases true ih = ih ∙ omega arith
      cases false ih = steady.1 ∙ omega arith

ended-by : {A : Type 0} (e : End A) (t s : State) (o : Outcome) → stopped (come_to e t) ≡ stop.Ended o s
    → (o ≡ outcome_of e) × (s ≡ t)
ended-by (Gave a) t s o h = (cc, cc)
ended-by (Ended p) t s o h = (cc, cc)

module _ (bundle : Bundle) (bound : ℕ) (writes : List NumberedWrite) (n : ℕ) (old new : Machine)
    (stands : StandsFor bundle bound writes n old)
    (o : Outcome) (out : RunsOut old (rest_of old old.state) o new) where
  pub runs-out : (o ≡ outcome bundle bound writes) × (new.state ≡ (program_trace bundle bound writes).state)
  unfolding program_trace
  runs-out =
      let on = onward bundle bound writes n old stands in
      let ended = ended-by _ _ new.state o (ap stopped (sym (drive-past bundle bound writes n
      (rest_of old old.state) on.steady stands.none_above))
      ∙ ap (λ (k : ℕ). stopped (drive (only_bounded k) (rest_of old old.state))) (sym stands.same_bound) ∙ out) in
      (ended.0 ∙ sym (ap outcome_of on.end), ended.1 ∙ sym on.state)

  pub counts-out : (before after : ℕ) → after ≡ before + (new.state.moments - old.state.moments)
      → after + n ≡ before + length (program_trace bundle bound writes).moments
  unfolding program_trace
  counts-out before after told =
      let first = number-is bundle bound writes n old stands in
      let last = ap (λ (s : State). s.moments) runs-out.1 ∙ all-counted bundle bound writes 0
      (program_run bundle bound) (steady-program bundle bound) in
      let most = within n stands in
      omega (arith, told, first, last, most)
    where
      within : (n : ℕ) → StandsFor bundle bound writes n old → n ≤ length (program_trace bundle bound writes).moments
      within zero stands = omega arith
      within (suc k) stands =
          let found = of_image _ _ _ stands.state in
          let long = slice_get_within (program_trace bundle bound writes).moments k found.0 found.1 in omega
          (arith, long)
