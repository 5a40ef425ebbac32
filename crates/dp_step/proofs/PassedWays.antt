-- What a machine does on its way past moments.
use Rattle.std.proofs.Common.{◌≡◌, ℕ, ◌+◌, Bool, is_some, List, [], Option, Ok, Err, refl, sym, ap, ◌∙◌, subst}
use Rattle.dp_tree.specs.declared.tree.Statement.{Statement}
use Rattle.dp_state.specs.declared.moments.Outcome.{Outcome}
use Rattle.dp_state.specs.declared.moments.Outcome.TheVariants as way
use Rattle.dp_state.specs.declared.state.State.{State}
use Rattle.dp_actions.specs.declared.halt.Halt.{Halt}
use Rattle.dp_actions.specs.declared.halt.Halt.TheVariants as halt
use Rattle.dp_actions.specs.declared.signal.Signal.{Signal}
use Rattle.dp_actions.specs.Run.{Run, Done, Over, At, ◌>>=◌}
use Rattle.dp_actions.specs.Statements.{statement_run}
use Rattle.dp_meaning.specs.Whole.{RunsWhole}
use Rattle.dp_meaning.specs.Writes.{writes_of}
use Rattle.dp_meaning.proofs.Wholes.{meets}
use Rattle.dp_small_steps.specs.declared.work.Given.TheVariants as given
use Rattle.dp_small_steps.specs.Parts.{to_signal}
use Rattle.dp_small_steps.specs.declared.work.Hand.TheVariants as hand
use Rattle.dp_step.specs.declared.machine.Arrival.{Arrival}
use Rattle.dp_step.specs.declared.machine.Arrival.TheVariants as arrival
use Rattle.dp_step.specs.declared.machine.Came.{Came}
use Rattle.dp_step.specs.declared.machine.Came.TheVariants as step
use Rattle.dp_step.specs.declared.machine.Machine.{Machine}
use Rattle.dp_step.specs.inner.Leaps.{whole_of}
use Rattle.dp_step.specs.inner.Moves.{IsOver, Moves, came_of, follows_of, setting_at}
use Rattle.dp_step.specs.inner.Passing.{Approaches, IsInHand, IsOverBy, LeadsTo, Nears, NearsBy, Passes}
use Rattle.dp_step.specs.Stands.{rest_of}
use Rattle.dp_analysis.specs.Quiet.{AreLoud}
use Rattle.dp_meaning.specs.Unwatched.{OnFree}
use Rattle.dp_step.proofs.PassedRuns.{ends, gives, passes-on}
use Rattle.dp_step.proofs.Smalls.{done-is, over-is, rest-by}

-- ---- a statement that was in hand

module _ (lines : List ℕ) (names : Option (List (List ℕ))) (old : Machine) (statement : Statement)
    (are_loud : AreLoud lines old.bundle.now names) (in_hand : IsInHand lines names old.hand statement) where
  abbrev calls : Bool
  calls = is_some names

  free : OnFree lines calls (statement_run statement (setting_at old) old.state)
  free = in_hand.0.1 old.bundle.now are_loud old.bound old.depth old.state

  abbrev this : Run Signal
  this = statement_run statement (setting_at old) old.state

  was : rest_of old old.state ≡ (this >>= to_signal (follows_of old))
  unfolding rest_of
  was = in_hand.1 (setting_at old) (follows_of old) old.state

  pub quiet-on : (g : Signal) (s : State) (new : Machine)
      → RunsWhole (whole_of old) (statement_run statement) (Ok g) old.state s
      → new.bundle.now ≡ old.bundle.now → new.bound ≡ old.bound → new.depth ≡ old.depth
      → new.hand ≡ hand.Give (given.Signal g) → new.pending.items ≡ old.pending.items → new.state ≡ s
      → NearsBy lines calls old new
  quiet-on g s new ran bundle bound depth held items state =
      let passed = gives lines calls in_hand.0.0 old.bound (to_signal (follows_of old)) this
      free g s
      (meets old.bound (writes_of old.bundle.now []) refl this (Ok g) s ran) in
      let is : rest_of new new.state ≡ to_signal (follows_of old) g s =
      ap (rest_of new) state ∙ rest-by new old.bundle.now old.bound old.depth
      (hand.Give (given.Signal g)) old.pending.items bundle bound depth held items s in record {
        over = passed.0;
        passes = subst (λ (r : Run Signal). Passes lines calls old.bound r passed.0 (rest_of new new.state)) (sym was)
            (subst (λ (r : Run Signal). Passes lines calls old.bound (this >>= to_signal (follows_of old)) passed.0 r)
            (sym is) passed.1);
        same_bundle = bundle;
        same_bound = bound;
      }

  quiet-over : (o : Outcome) (new : Machine)
      → RunsWhole (whole_of old) (statement_run statement) (Err (halt.Finished o)) old.state new.state
      → new.bundle.now ≡ old.bundle.now → new.bound ≡ old.bound
      → Approaches lines calls old (arrival.End o) new
  quiet-over o new ran bundle bound =
      let passed = ends lines calls in_hand.0.0 old.bound (to_signal (follows_of old)) this
      free o new.state
      (meets old.bound (writes_of old.bundle.now []) refl this (Err (halt.Finished o)) new.state ran) in record {
        over = passed.0;
        later = passed.1;
        passes = subst (λ (r : Run Signal). Passes lines calls old.bound r passed.0 passed.1) (sym was) passed.2;
        leads = passed.3;
        same_bundle = bundle;
        same_bound = bound;
      }

  pub quiet-off : (why : Halt) (came : Came) (new : Machine) → came ≡ came_of why
      → RunsWhole (whole_of old) (statement_run statement) (Err why) old.state new.state
      → new.bundle.now ≡ old.bundle.now → new.bound ≡ old.bound
      → Nears lines calls old came new
  quiet-off why came new is ran bundle bound =
      subst (λ (c : Came). Nears lines calls old c new) (sym is) (by why ran)
    where
      by : (why : Halt) → RunsWhole (whole_of old) (statement_run statement) (Err why) old.state new.state
          → Nears lines calls old (came_of why) new
      by halt.Memory ran = tt
      by (halt.Finished o) ran = quiet-over o new ran bundle bound
      by (halt.Stopped at) ran = tt

module _ (lines : List ℕ) (calls : Bool) where
  -- ---- a small step

  over-by : (bound : ℕ) (r : Run Signal) (o : Outcome) (t : State) → IsOver r o t → IsOverBy bound r o t
  over-by bound (Done g s) o t h = h
  over-by bound (Over p s) o t h = h
  over-by bound (At kind line s go) o t h = absurd h

  there : (old new : Machine) (at : Arrival) → LeadsTo old.bound (rest_of old old.state) at new
      → new.bundle.now ≡ old.bundle.now → new.bound ≡ old.bound → Approaches lines calls old at new
  there old new at leads bundle bound = record {
    over = 0;
    later = rest_of old old.state;
    passes = refl;
    leads = leads;
    same_bundle = bundle;
    same_bound = bound;
  }

  pub small-nears : (old new : Machine) (came : Came) → Moves old (rest_of old old.state) came new
      → Nears lines calls old came new
  small-nears old new step.On moves = record {
    over = 0;
    passes = moves.by;
    same_bundle = moves.same_bundle;
    same_bound = moves.same_bound;
  }
  small-nears old new (step.Moment kind line) moves =
      there old new (arrival.Moment kind line) moves.by moves.same_bundle moves.same_bound
  small-nears old new step.Done moves =
      there old new (arrival.End way.Done)
      (over-by old.bound (rest_of old old.state) way.Done new.state (done-is _ new moves.by))
      moves.same_bundle moves.same_bound
  small-nears old new (step.Over o) moves =
      there old new (arrival.End o)
      (over-by old.bound (rest_of old old.state) o new.state (over-is _ o new.state moves.by))
      moves.same_bundle moves.same_bound
  small-nears old new step.Failed moves = tt

  -- ---- one after the other

  pub nears-first : (m : Machine) → NearsBy lines calls m m
  nears-first m = record { over = 0; passes = refl; same_bundle = refl; same_bound = refl }

  module _ (old mid new : Machine) (way : NearsBy lines calls old mid) where
    pub nears-on : NearsBy lines calls mid new → NearsBy lines calls old new
    nears-on more = record {
      over = way.over + more.over;
      passes = passes-on lines calls old.bound way.over more.over (rest_of old old.state) (rest_of mid mid.state)
          (rest_of new new.state) way.passes
          (subst (λ (b : ℕ). Passes lines calls b (rest_of mid mid.state) more.over
          (rest_of new new.state)) way.same_bound
          more.passes);
      same_bundle = more.same_bundle ∙ way.same_bundle;
      same_bound = more.same_bound ∙ way.same_bound;
    }

    pub nears-there : (came : Arrival) → Approaches lines calls mid came new → Approaches lines calls old came new
    nears-there came more = record {
      over = way.over + more.over;
      later = more.later;
      passes = passes-on lines calls old.bound way.over more.over (rest_of old old.state) (rest_of mid mid.state)
          more.later way.passes
          (subst (λ (b : ℕ). Passes lines calls b (rest_of mid mid.state) more.over more.later) way.same_bound
          more.passes);
      leads = subst (λ (b : ℕ). LeadsTo b more.later came new) way.same_bound more.leads;
      same_bundle = more.same_bundle ∙ way.same_bundle;
      same_bound = more.same_bound ∙ way.same_bound;
    }
