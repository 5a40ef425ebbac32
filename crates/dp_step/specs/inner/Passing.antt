-- A machine that passes moments: what it has to do, and what was to be done before.
use Rattle.std.specs.Prelude.{◌≡◌, ℕ, zero, suc, ◌<◌, ◌≤◌, Bool, true, List, Option, is_some}
use Rattle.dp_state.specs.declared.moments.Outcome.{Outcome}
use Rattle.dp_state.specs.declared.moments.Outcome.TheVariants as way
use Rattle.dp_state.specs.declared.state.State.{State}
use Rattle.dp_tree.specs.declared.tree.Statement.{Statement}
use Rattle.dp_actions.specs.declared.signal.Signal.{Signal}
use Rattle.dp_actions.specs.Run.{Run, Done, Over, At, ◌>>=◌}
use Rattle.dp_actions.specs.Setting.{Setting}
use Rattle.dp_actions.specs.Statements.{statement_run}
use Rattle.dp_meaning.specs.Trace.{moment_of}
use Rattle.dp_meaning.specs.Writes.{arrived}
use Rattle.dp_meaning.specs.Programs.{setting_of}
use Rattle.dp_analysis.specs.Quiet.{AreLoud, is_free}
use Rattle.dp_meaning.specs.Unwatched.{OnFree}
use Rattle.dp_tree.specs.declared.bundle.Bundle.{Bundle}
use Rattle.dp_step.specs.declared.machine.Arrival.{Arrival}
use Rattle.dp_step.specs.declared.machine.Arrival.TheVariants as arrival
use Rattle.dp_step.specs.declared.machine.Came.{Came}
use Rattle.dp_step.specs.declared.machine.Came.TheVariants as came
use Rattle.dp_step.specs.declared.machine.Machine.{Machine}
use Rattle.dp_step.specs.declared.machine.Progress.{Progress}
use Rattle.dp_step.specs.declared.machine.Progress.TheVariants as progress
use Rattle.dp_step.specs.inner.Moves.{ArrivesBy, Comes}
use Rattle.dp_step.specs.Past.{IsPassed}
use Rattle.dp_step.specs.Stands.{rest_of}
use Rattle.dp_small_steps.specs.Parts.{Follows, to_signal}
use Rattle.dp_small_steps.specs.declared.work.Hand.{Hand}
use Rattle.dp_small_steps.specs.Rest.{hand_rest}

-- a statement has no moments but such as are passed, in whatever frame
abbrev pub IsQuietBy : List ℕ → Option (List (List ℕ)) → Statement → Type 0
IsQuietBy lines names statement =
    (is_free lines 0 ≡ true)
    × ((bundle : Bundle) → AreLoud lines bundle names → (bound depth : ℕ) (s : State)
    → OnFree lines (is_some names) (statement_run statement (setting_of bundle bound depth) s))

-- it is what is in hand
abbrev pub IsInHand : List ℕ → Option (List (List ℕ)) → Hand → Statement → Type 0
IsInHand lines names hand statement =
    IsQuietBy lines names statement
    × ((setting : Setting) (k : Follows) (s : State)
    → hand_rest setting hand k s ≡ (statement_run statement setting s >>= to_signal k))

-- from a run so many moments are passed, at which nothing is written, and then comes another run
abbrev pub Passes : {A : Type 0} → List ℕ → Bool → ℕ → Run A → ℕ → Run A → Type 0
Passes lines calls bound run zero later = run ≡ later
Passes lines calls bound (Done a s) (suc k) later = ⊥
Passes lines calls bound (Over o s) (suc k) later = ⊥
Passes lines calls bound (At kind line s go) (suc k) later =
    (s.moments < bound) × IsPassed lines calls (moment_of kind (arrived line s))
    × Passes lines calls bound (go (arrived line s)) k later

-- a run is over in a state, also because a moment is beyond the bound
abbrev pub IsOverBy : {A : Type 0} → ℕ → Run A → Outcome → State → Type 0
IsOverBy bound (Done a s) o t = (o ≡ way.Done) × (t ≡ s)
IsOverBy bound (Over p s) o t = (o ≡ p) × (t ≡ s)
IsOverBy bound (At kind line s go) o t = (bound ≤ s.moments) × (o ≡ way.Bound) × (t ≡ s)

-- a run leads there
abbrev pub LeadsTo : ℕ → Run Signal → Arrival → Machine → Type 0
LeadsTo bound run (arrival.Moment kind line) m = ArrivesBy run (arrival.Moment kind line) m
LeadsTo bound run (arrival.End outcome) m = IsOverBy bound run outcome m.state

pub record Approaches
    (lines : List ℕ) (calls : Bool) (old : Machine) (came : Arrival) (new : Machine)
    : Type 0 where
  pub over : ℕ
  pub later : Run Signal
  pub passes : Passes lines calls old.bound (rest_of old old.state) over later
  pub leads : LeadsTo old.bound later came new
  pub same_bundle : new.bundle.now ≡ old.bundle.now
  pub same_bound : new.bound ≡ old.bound

-- some of the way, which may lead to neither a moment nor the end
pub record NearsBy (lines : List ℕ) (calls : Bool) (old new : Machine) : Type 0 where
  pub over : ℕ
  pub passes : Passes lines calls old.bound (rest_of old old.state) over (rest_of new new.state)
  pub same_bundle : new.bundle.now ≡ old.bundle.now
  pub same_bound : new.bound ≡ old.bound

abbrev pub Nears : List ℕ → Bool → Machine → Came → Machine → Type 0
Nears lines calls old came.On new = NearsBy lines calls old new
Nears lines calls old (came.Moment kind line) new =
    Approaches lines calls old (arrival.Moment kind line) new
Nears lines calls old came.Done new = Approaches lines calls old (arrival.End way.Done) new
Nears lines calls old (came.Over outcome) new =
    Approaches lines calls old (arrival.End outcome) new
Nears lines calls old came.Failed new = Unit {0}

-- the moment that comes behind them, or the end
abbrev pub ComesBehind : Arrival → Machine → Progress → Machine → Type 0
ComesBehind (arrival.Moment kind line) mid came new = Comes kind line mid came new
ComesBehind (arrival.End outcome) mid came new =
    (came ≡ progress.Ended outcome) × (new.state ≡ mid.state)

pub record Gets
    (lines : List ℕ) (calls : Bool) (old : Machine) (came : Progress) (new : Machine)
    : Type 0 where
  pub mid : Machine
  pub arrival : Arrival
  pub approaches : Approaches lines calls old arrival mid
  pub comes : ComesBehind arrival mid came new
