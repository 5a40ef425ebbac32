-- One small step of a machine.
use Rattle.std.specs.Prelude.{◌≡◌, ℕ, ◌-◌, ◌<◌, ◌≤◌, Bool, true, false, if◌then◌else◌}
use Rattle.std.specs.Prelude.{Option, Some, None, reverse}
use Rattle.dp_state.specs.declared.moments.MomentKind.{MomentKind}
use Rattle.dp_state.specs.declared.moments.MomentKind.TheVariants as moment
use Rattle.dp_state.specs.declared.moments.Outcome.{Outcome}
use Rattle.dp_state.specs.declared.moments.Outcome.TheVariants as way
use Rattle.dp_state.specs.declared.state.State.{State}
use Rattle.dp_tree.specs.declared.tree.Function.{Function}
use Rattle.dp_actions.specs.declared.halt.Halt.{Halt}
use Rattle.dp_actions.specs.declared.halt.Halt.TheVariants as halt
use Rattle.dp_actions.specs.declared.signal.Signal.{Signal}
use Rattle.dp_meaning.specs.Programs.{setting_of}
use Rattle.dp_actions.specs.Bodies.{leaving, left_file}
use Rattle.dp_actions.specs.Bodies.{statements_of}
use Rattle.dp_actions.specs.Run.{Run, Done, Over, At, ◌>>=◌}
use Rattle.dp_actions.specs.Setting.{Setting}
use Rattle.dp_actions.specs.Statements.{body_run}
use Rattle.dp_meaning.specs.Trace.{moment_of}
use Rattle.dp_meaning.specs.Writes.{arrived}
use Rattle.dp_step.specs.declared.machine.Machine.{Machine}
use Rattle.dp_step.specs.declared.machine.Came.{Came}
use Rattle.dp_step.specs.declared.machine.Came.TheVariants as came
use Rattle.dp_step.specs.declared.machine.Arrival.{Arrival}
use Rattle.dp_step.specs.declared.machine.Arrival.TheVariants as arrival
use Rattle.dp_step.specs.declared.machine.Progress.{Progress}
use Rattle.dp_step.specs.declared.machine.Progress.TheVariants as progress
use Rattle.dp_small_steps.specs.declared.work.Given.{Given}
use Rattle.dp_small_steps.specs.declared.work.Given.TheVariants as given
use Rattle.dp_small_steps.specs.declared.work.Hand.{Hand}
use Rattle.dp_small_steps.specs.declared.work.Hand.TheVariants as hand
use Rattle.dp_small_steps.specs.declared.work.Next.{Next}
use Rattle.dp_small_steps.specs.declared.work.Small.{Small}
use Rattle.dp_small_steps.specs.declared.work.Waiting.{Waiting}
use Rattle.dp_small_steps.specs.declared.work.Work.{Work}
use Rattle.dp_small_steps.specs.Rest.{hand_rest, next_rest, small_rest}
use Rattle.dp_small_steps.specs.Parts.{Follows, to_value}
use Rattle.dp_small_steps.specs.Rest.{waiting_rest, work_rest}
use Rattle.dp_step.specs.Stands.{HasEnded, depth_after, pending_rest, rest_of, signal_of}

-- ---- what a machine has to do beside its hand

abbrev pub setting_at : Machine → Setting
setting_at m = setting_of m.bundle.now m.bound m.depth

abbrev pub follows_of : Machine → Follows
follows_of m = pending_rest m.bundle.now m.bound m.depth (reverse m.pending.items)

-- this in hand, a part that is given something, and what a small step comes to
abbrev pub rest_with : Machine → Hand → State → Run Signal
rest_with m hand s = hand_rest (setting_at m) hand (follows_of m) s

abbrev pub work_with : Machine → Work → Given → State → Run Signal
work_with m w g s = work_rest (setting_at m) w (follows_of m) g s

abbrev pub next_with : Machine → Next → State → Run Signal
next_with m next s = next_rest (setting_at m) next (follows_of m) s

abbrev pub small_with : Machine → Small → State → Run Signal
small_with m small s = small_rest (setting_at m) small (follows_of m) s

-- an item that is given something, after which so many frames more can be on the stack
abbrev pub end_with : Machine → Waiting → Given → State → Run Signal
end_with m w g s =
    waiting_rest (setting_of m.bundle.now m.bound (depth_after w m.depth)) w
    (pending_rest m.bundle.now m.bound (depth_after w m.depth) (reverse m.pending.items)) g s

-- a function that was entered begins, and then comes the end of its call
abbrev pub body_with : Machine → Function → State → Run Signal
body_with m f s =
    At moment.Enter f.line s
    (λ t. body_run f.body (setting_of m.bundle.now m.bound (m.depth - 1)) t
    >>= λ g u. leaving g u >>= to_value (follows_of m))

-- the same of a file
abbrev pub file_with : Machine → ℕ → State → Run Signal
file_with m file s =
    body_run (statements_of m.bundle.now file) (setting_of m.bundle.now m.bound (m.depth - 1)) s
    >>= λ g u. left_file g u >>= to_value (follows_of m)

-- whether something ends a call, and the moment at which it does
abbrev pub ends_call : Given → Bool
ends_call (given.Signal g) = true
ends_call (given.Value v) = false
ends_call (given.Values values) = false

abbrev pub leave_if : Bool → ℕ → Option (MomentKind × ℕ)
leave_if b line = if b then Some (moment.Leave, line) else None

-- ---- what a small step does

-- a run is over in a state
abbrev pub IsOver : Run Signal → Outcome → State → Type 0
IsOver (Done g s) o t = (o ≡ way.Done) × (t ≡ s)
IsOver (Over p s) o t = (o ≡ p) × (t ≡ s)
IsOver (At kind line s go) o t = ⊥

-- it is done, and what was given last is in hand
pub record IsDone (run : Run Signal) (m : Machine) : Type 0 where
  pub given : Given
  pub in_hand : m.hand ≡ hand.Give given
  pub done : run ≡ Done (signal_of given) m.state

abbrev pub MovesBy : Run Signal → Came → Machine → Type 0
MovesBy run came.On m = run ≡ rest_of m m.state
MovesBy run (came.Moment kind line) m = run ≡ At kind line m.state (rest_of m)
MovesBy run came.Done m = IsDone run m
MovesBy run (came.Over outcome) m = run ≡ Over outcome m.state
MovesBy run came.Failed m = Unit {0}

-- what was to be done is what the machine has to do now, at once or behind a moment, or it is over
pub record Moves (old : Machine) (run : Run Signal) (came : Came) (new : Machine) : Type 0 where
  pub by : MovesBy run came new
  pub same_bundle : new.bundle.now ≡ old.bundle.now
  pub same_bound : new.bound ≡ old.bound

-- what a small step comes to that may lead to a moment, or is halted
abbrev pub came_to : Option (MomentKind × ℕ) → Came
came_to None = came.On
came_to (Some m) = came.Moment m.0 m.1

abbrev pub came_of : Halt → Came
came_of (halt.Finished outcome) = came.Over outcome
came_of halt.Memory = came.Failed
came_of (halt.Stopped moment) = came.Failed

-- ---- as many of them as lead to a moment, or to the end

abbrev pub ArrivesBy : Run Signal → Arrival → Machine → Type 0
ArrivesBy run (arrival.Moment kind line) m = run ≡ At kind line m.state (rest_of m)
ArrivesBy run (arrival.End outcome) m = IsOver run outcome m.state

pub record Arrives (old : Machine) (run : Run Signal) (arrival : Arrival) (new : Machine)
    : Type 0 where
  pub by : ArrivesBy run arrival new
  pub same_bundle : new.bundle.now ≡ old.bundle.now
  pub same_bound : new.bound ≡ old.bound

-- ---- a moment that comes

-- it is that of the state where it arrived, unless it is beyond the bound
abbrev pub ComesBy : MomentKind → ℕ → Machine → Progress → Machine → Type 0
ComesBy kind line old (progress.At moment) new =
    (old.state.moments < old.bound) × (moment ≡ moment_of kind (arrived line old.state))
    × (new.state ≡ arrived line old.state) × ((s : State) → rest_of new s ≡ rest_of old s)
ComesBy kind line old (progress.Ended outcome) new =
    (old.bound ≤ old.state.moments) × (outcome ≡ way.Bound) × (new.state ≡ old.state)
    × HasEnded way.Bound new

pub record Comes (kind : MomentKind) (line : ℕ) (old : Machine) (came : Progress) (new : Machine)
    : Type 0 where
  pub by : ComesBy kind line old came new
  pub same_bundle : new.bundle.now ≡ old.bundle.now
  pub same_bound : new.bound ≡ old.bound
