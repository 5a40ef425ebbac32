-- The moments of a run, the states at them, and its end.
use Rattle.std.specs.Prelude.{◌≡◌, ℕ, zero, suc, ◌+◌, nat_lt, if◌then◌else◌, List, [], ◌∷◌, length, Option, Some, None, option_map, slice_get}
use Rattle.std.specs.Option.{option_map_or}
use Rattle.dp_tree.specs.declared.bundle.Bundle.{Bundle}
use Rattle.dp_state.specs.declared.moments.Moment.{Moment}
use Rattle.dp_state.specs.declared.moments.MomentKind.{MomentKind}
use Rattle.dp_state.specs.declared.moments.MomentKind.TheVariants.{Place, Enter, Leave}
use Rattle.dp_state.specs.declared.moments.Outcome.{Outcome}
use Rattle.dp_state.specs.declared.moments.Outcome.TheVariants as way
use Rattle.dp_state.specs.declared.state.FrameKind.{FrameKind}
use Rattle.dp_state.specs.declared.state.FrameKind.TheVariants.{Main, Called, Included}
use Rattle.dp_state.specs.declared.state.State.{State}
use Rattle.dp_state.specs.States.{file_of, line_of, opening, top_frame}
use Rattle.dp_actions.specs.declared.signal.Signal.{Signal}
use Rattle.dp_meaning.specs.declared.stop.Stop.{Stop}
use Rattle.dp_meaning.specs.declared.stop.Stop.TheVariants as stop
use Rattle.dp_meaning.specs.declared.writes.NumberedWrite.{NumberedWrite}
use Rattle.dp_meaning.specs.Programs.{program_run}
use Rattle.dp_actions.specs.Run.{Run, Done, Over, At}
use Rattle.dp_meaning.specs.Writes.{Writes, arrived, written, writes_of}

-- ---- moments

abbrev pub name_called : FrameKind → Option (List ℕ)
name_called Main = None
name_called (Called name) = Some name
name_called Included = None

-- the function of the top frame
abbrev pub function_called : State → Option (List ℕ)
function_called s = option_map_or (λ f. name_called f.kind) (top_frame s) None

-- the function that is entered or left
abbrev pub function_of : MomentKind → State → Option (List ℕ)
function_of Place s = None
function_of Enter s = function_called s
function_of Leave s = function_called s

-- the moment that has come in a state
abbrev pub moment_of : MomentKind → State → Moment
moment_of kind s = record {
  number = s.moments;
  kind = kind;
  file = file_of s;
  line = line_of s;
  depth = length s.frames;
  function = function_of kind s;
}

-- ---- traces

-- how a run ends: it gives something, or the whole program is over
pub data End (A : Type 0) : Type 0 where
  Gave : A → End A
  Ended : Outcome → End A

-- the moments of a run, each with the state in which it comes, and how and in which state it ends
pub record Trace (A : Type 0) : Type 0 where
  pub moments : List (Moment × State)
  pub end : End A
  pub state : State

abbrev pub with_moment : {A : Type 0} → Moment → State → Trace A → Trace A
with_moment moment s t = record { moments = (moment, s) ∷ t.moments; end = t.end; state = t.state }

-- At a moment its line is set, it is counted, and the writes of its number are made. The moment
-- beyond the bound does not come.
abbrev pub trace : {A : Type 0} → ℕ → Writes → Run A → Trace A
trace bound writes (Done a s) = record { moments = []; end = Gave a; state = s }
trace bound writes (Over o s) = record { moments = []; end = Ended o; state = s }
trace bound writes (At kind line s go) =
    if nat_lt s.moments bound
    then with_moment (moment_of kind (arrived line s)) (arrived line s)
    (trace bound writes (go (written writes (s.moments + 1) (arrived line s))))
    else record { moments = []; end = Ended way.Bound; state = s }

-- how a program ends: what a return of its main file gives ends it as its last statement does
abbrev pub outcome_of : {A : Type 0} → End A → Outcome
outcome_of (Gave a) = way.Done
outcome_of (Ended o) = o

-- the moment of a number, which counts from 1
abbrev pub moment_at : {A : Type 0} → Trace A → ℕ → Option (Moment × State)
moment_at t zero = None
moment_at t (suc n) = slice_get t.moments n

-- ---- programs

unfoldable pub program_trace : Bundle → ℕ → List NumberedWrite → Trace Signal
program_trace bundle bound writes = trace bound (writes_of bundle writes) (program_run bundle bound)

-- the state at a moment after its writes; that of the number 0 is the opening state
abbrev pub now : Bundle → ℕ → List NumberedWrite → ℕ → Option State
now bundle bound writes zero = Some (opening bundle)
now bundle bound writes (suc n) =
    option_map (λ p. written (writes_of bundle writes) (suc n) p.1)
    (moment_at (program_trace bundle bound writes) (suc n))

abbrev pub outcome : Bundle → ℕ → List NumberedWrite → Outcome
outcome bundle bound writes = outcome_of (program_trace bundle bound writes).end

abbrev pub output : Bundle → ℕ → List NumberedWrite → List ℕ
output bundle bound writes = (program_trace bundle bound writes).state.output

-- the trace with no writes
abbrev pub plain : Bundle → ℕ → Trace Signal
plain bundle bound = program_trace bundle bound []

-- the moment of a number where the trace has it, with the state after its writes, and else the end
abbrev pub IsStop : {A : Type 0} → Trace A → Writes → ℕ → Stop → Type 0
IsStop t writes n (stop.At moment s) =
    (before : State) × (moment_at t n ≡ Some (moment, before)) × (s ≡ written writes n before)
IsStop t writes n (stop.Ended o s) = (moment_at t n ≡ None) × (o ≡ outcome_of t.end) × (s ≡ t.state)
