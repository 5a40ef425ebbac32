-- What a machine stands for: a program with its writes, at a moment.
use Rattle.std.specs.Prelude.{◌≡◌, ℕ, zero, suc, ◌≤◌, List, [], ◌∷◌, reverse}
use Rattle.std.specs.Prelude.{Some, None, Result, Ok, Err}
use Rattle.dp_tree.specs.declared.bundle.Bundle.{Bundle}
use Rattle.dp_state.specs.declared.moments.Moment.{Moment}
use Rattle.dp_state.specs.declared.moments.Outcome.{Outcome}
use Rattle.dp_state.specs.declared.state.State.{State}
use Rattle.dp_state.specs.States.{frame_limit}
use Rattle.dp_actions.specs.declared.signal.Signal.{Signal}
use Rattle.dp_actions.specs.declared.signal.Signal.TheVariants.{Next}
use Rattle.dp_meaning.specs.declared.writes.NumberedWrite.{NumberedWrite}
use Rattle.dp_meaning.specs.Programs.{program_run, setting_of}
use Rattle.dp_actions.specs.Bodies.{statements_of}
use Rattle.dp_actions.specs.Run.{Run, Done, Over}
use Rattle.dp_actions.specs.Statements.{body_run}
use Rattle.dp_meaning.specs.Stops.{following}
use Rattle.dp_meaning.specs.Trace.{moment_at, now, outcome, program_trace}
use Rattle.dp_meaning.specs.Writes.{writes_of}
use Rattle.dp_step.specs.declared.machine.Machine.{Machine}
use Rattle.dp_step.specs.declared.machine.Progress.{Progress}
use Rattle.dp_step.specs.declared.machine.Progress.TheVariants as progress
use Rattle.dp_small_steps.specs.declared.work.Given.{Given}
use Rattle.dp_small_steps.specs.declared.work.Given.TheVariants as given
use Rattle.dp_small_steps.specs.declared.work.Hand.TheVariants as hand
use Rattle.dp_small_steps.specs.declared.work.Waiting.{Waiting}
use Rattle.dp_small_steps.specs.declared.work.Waiting.TheVariants as waiting
use Rattle.dp_small_steps.specs.Rest.{hand_rest, waiting_rest}
use Rattle.dp_small_steps.specs.Parts.{Follows}

-- ---- all that a machine has to do

-- how the program ends, by what its last part gives
abbrev pub signal_of : Given → Signal
signal_of (given.Signal g) = g
signal_of (given.Value v) = Next
signal_of (given.Values values) = Next

-- how many frames more can be on the stack once an item is done
abbrev pub depth_after : Waiting → ℕ → ℕ
depth_after (waiting.Part w) depth = depth
depth_after (waiting.EndCall before) depth = before
depth_after (waiting.EndFile before) depth = before

-- the pending work, finished whole, the innermost item first
abbrev pub pending_rest : Bundle → ℕ → ℕ → List Waiting → Follows
pending_rest bundle bound depth [] g s = Done (signal_of g) s
pending_rest bundle bound depth (w ∷ ws) g s =
    waiting_rest (setting_of bundle bound (depth_after w depth)) w
    (pending_rest bundle bound (depth_after w depth) ws) g s

unfoldable pub rest_of : Machine → State → Run Signal
rest_of m s =
    hand_rest (setting_of m.bundle.now m.bound m.depth) m.hand
    (pending_rest m.bundle.now m.bound m.depth (reverse m.pending.items)) s

-- ---- what it stands for

abbrev pub NoneAbove : ℕ → List NumberedWrite → Type 0
NoneAbove n [] = Unit {0}
NoneAbove n (w ∷ ws) = (w.moment ≤ n) × NoneAbove n ws

-- What follows the moment of a number of a program, by the state after the writes of that moment.
-- The number 0 is before the first moment.
abbrev pub IsAfter : Bundle → ℕ → List NumberedWrite → ℕ → (State → Run Signal) → Type 0
IsAfter bundle bound writes zero go =
    go ≡ body_run (statements_of bundle 0) (setting_of bundle bound frame_limit)
IsAfter bundle bound writes (suc n) go =
    following bound (writes_of bundle writes) (program_run bundle bound) (suc n) ≡ Some go

-- What the machine has to do is what follows the moment, whatever is written at it: a write
-- changes the state and leaves the pending work.
pub record StandsFor
    (bundle : Bundle) (bound : ℕ) (writes : List NumberedWrite) (n : ℕ) (m : Machine)
    : Type 0 where
  pub same_bundle : m.bundle.now ≡ bundle
  pub same_bound : m.bound ≡ bound
  pub none_above : NoneAbove n writes
  pub state : now bundle bound writes n ≡ Some m.state
  pub rest : (go : State → Run Signal)
      × IsAfter bundle bound writes n go × ((s : State) → go s ≡ rest_of m s)

-- a step from the moment n comes to the next one, and then the machine stands for that
abbrev pub ComesTo : Bundle → ℕ → List NumberedWrite → ℕ → Moment → Machine → Type 0
ComesTo bundle bound writes n moment m =
    (moment_at (program_trace bundle bound writes) (suc n) ≡ Some (moment, m.state))
    × StandsFor bundle bound writes (suc n) m

-- a step from the moment n ends the program
abbrev pub EndsWith : Bundle → ℕ → List NumberedWrite → ℕ → Outcome → Machine → Type 0
EndsWith bundle bound writes n o m =
    (moment_at (program_trace bundle bound writes) (suc n) ≡ None)
    × (o ≡ outcome bundle bound writes) × (m.state ≡ (program_trace bundle bound writes).state)

-- what a step answers
abbrev pub GoesOn : Bundle → ℕ → List NumberedWrite → ℕ → Progress → Machine → Type 0
GoesOn bundle bound writes n (progress.At moment) m = ComesTo bundle bound writes n moment m
GoesOn bundle bound writes n (progress.Ended o) m = EndsWith bundle bound writes n o m

-- how many steps it counts
abbrev pub steps_of : Progress → ℕ
steps_of (progress.At moment) = 1
steps_of (progress.Ended o) = 0

-- ---- ends

-- the program of a machine has ended so: nothing is left to do
abbrev pub HasEnded : Outcome → Machine → Type 0
HasEnded o m = (s : State) → rest_of m s ≡ Over o s

-- memory has run out: it answers so from then on
abbrev pub HasFailed : Machine → Type 0
HasFailed m = m.hand ≡ hand.Failed

-- how a step leaves the machine, by what it answers
abbrev pub Leaves : {E : Type 0} → Result Progress E → Machine → Type 0
Leaves (Ok (progress.At moment)) m = Unit {0}
Leaves (Ok (progress.Ended o)) m = HasEnded o m
Leaves (Err e) m = HasFailed m
