-- A run up to a moment at which it stops: `trace` says the same without a stop.
use Rattle.std.specs.Prelude.{◌≡◌, ℕ, ◌+◌, nat_lt, nat_eq, Bool, false, if◌then◌else◌, [], Option, Some, None, Result, Ok, Err}
use Rattle.dp_value.specs.declared.value.Value.{Value}
use Rattle.dp_state.specs.declared.moments.Moment.{Moment}
use Rattle.dp_state.specs.declared.moments.MomentKind.{MomentKind}
use Rattle.dp_state.specs.declared.moments.Outcome.{Outcome}
use Rattle.dp_state.specs.declared.moments.Outcome.TheVariants.{Bound, Done as Completed}
use Rattle.dp_state.specs.declared.state.State.{State}
use Rattle.dp_actions.specs.declared.halt.Halt.{Halt}
use Rattle.dp_actions.specs.declared.halt.Halt.TheVariants.{Memory, Finished, Stopped}
use Rattle.dp_actions.specs.declared.signal.Signal.{Signal}
use Rattle.dp_meaning.specs.declared.stop.Stop.{Stop}
use Rattle.dp_meaning.specs.declared.stop.Stop.TheVariants as stop
use Rattle.dp_actions.specs.Run.{Run, Done, Over, At}
use Rattle.dp_meaning.specs.Trace.{moment_of}
use Rattle.dp_meaning.specs.Writes.{Writes, arrived, written, writes_of}

-- the bound, whether the run stops at a moment, by the state after its writes, and the writes
pub record Rules : Type 0 where
  pub bound : ℕ
  pub halts : Moment → State → Bool
  pub writes : Writes

-- at no moment
abbrev pub nowhere : Moment → State → Bool
nowhere moment s = false

-- at the moment of a number
abbrev pub at_number : ℕ → Moment → State → Bool
at_number number moment s = nat_eq moment.number number

-- no writes, and no stop
abbrev pub only_bounded : ℕ → Rules
only_bounded bound =
    record { bound = bound; halts = nowhere; writes = writes_of (record { files = [] }) [] }

-- how far a run came: it gave something, the program was over, or it came to the stop
pub data Reached (A : Type 0) : Type 0 where
  Gives : A → State → Reached A
  Ends : Outcome → State → Reached A
  Stops : Moment → State → Reached A

-- a run until the first moment at which it stops, and the writes of that moment
abbrev pub drive : {A : Type 0} → Rules → Run A → Reached A
drive rules (Done a s) = Gives a s
drive rules (Over o s) = Ends o s
drive rules (At kind line s go) =
    if nat_lt s.moments rules.bound
    then (
    if rules.halts (moment_of kind (arrived line s))
    (written rules.writes (s.moments + 1) (arrived line s))
    then Stops (moment_of kind (arrived line s)) (written rules.writes (s.moments + 1)
    (arrived line s))
    else drive rules (go (written rules.writes (s.moments + 1) (arrived line s)))
    )
    else Ends Bound s

-- where a program that came so far has stopped
abbrev pub stopped : {A : Type 0} → Reached A → Stop
stopped (Gives a s) = stop.Ended Completed s
stopped (Ends o s) = stop.Ended o s
stopped (Stops moment s) = stop.At moment s

-- what the evaluator answers and the state that it leaves are what a run reached
abbrev pub Meets : {A : Type 0} → Result A Halt → State → Reached A → Type 0
Meets (Ok a) s reached = reached ≡ Gives a s
Meets (Err Memory) s reached = Unit {0}
Meets (Err (Finished o)) s reached = reached ≡ Ends o s
Meets (Err (Stopped moment)) s reached = reached ≡ Stops moment s

-- the evaluator's answer is what the run gives, with the state that it leaves; out of memory says
-- nothing
pub record Evaluates {A : Type 0} (rules : Rules) (run : Run A) (result : Result A Halt)
    (s : State) : Type 0 where
  pub meets : Meets result s (drive rules run)

-- a moment by itself
abbrev pub moment_run : MomentKind → ℕ → State → Run Unit
moment_run kind line s = At kind line s (λ t. Done tt t)

-- ---- evaluations that nothing stops

-- a value, or none where there is no value. Out of memory says nothing
abbrev pub IsEvaluated : Result Value Halt → Option Value → Type 0
IsEvaluated (Ok v) answer = answer ≡ Some v
IsEvaluated (Err Memory) answer = ⊥
IsEvaluated (Err (Finished o)) answer = answer ≡ None
IsEvaluated (Err (Stopped moment)) answer = answer ≡ None

-- what an evaluation came to, and the state that it left
abbrev pub ComesTo : Reached Value → Option Value → State → Type 0
ComesTo (Gives v s) answer t = (answer ≡ Some v) × (t ≡ s)
ComesTo (Ends o s) answer t = (answer ≡ None) × (t ≡ s)
ComesTo (Stops moment s) answer t = (answer ≡ None) × (t ≡ s)

-- ---- programs

-- why a program that was run is no more on its way
abbrev pub halt_after : Result Signal Halt → Halt
halt_after (Ok signal) = Finished Completed
halt_after (Err h) = h

-- where it stopped. Out of memory says nothing
abbrev pub IsStopAt : Halt → State → Stop → Type 0
IsStopAt (Finished o) s end = end ≡ stop.Ended o s
IsStopAt (Stopped moment) s end = end ≡ stop.At moment s
IsStopAt Memory s end = ⊥
