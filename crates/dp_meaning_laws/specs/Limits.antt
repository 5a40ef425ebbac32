-- How many turns of loops and how many frames a run goes by.
use Rattle.std.specs.Prelude.{◌≡◌, ℕ, ◌+◌, ◌<◌, ◌≤◌, List, length}
use Rattle.dp_tree.specs.declared.bundle.Bundle.{Bundle}
use Rattle.dp_state.specs.declared.state.State.{State}
use Rattle.dp_state.specs.States.{IsOf, frame_limit, opening}
use Rattle.dp_actions.specs.declared.signal.Signal.{Signal}
use Rattle.dp_meaning.specs.declared.writes.NumberedWrite.{NumberedWrite}
use Rattle.dp_actions.specs.Bodies.{statements_of}
use Rattle.dp_actions.specs.Run.{Run, ◌>>=◌}
use Rattle.dp_actions.specs.Setting.{Setting}
use Rattle.dp_actions.specs.Statements.{body_run}
use Rattle.dp_meaning.specs.Trace.{Trace, trace}
use Rattle.dp_meaning.specs.Writes.{Writes, writes_of}

-- the trace of a program that goes by a setting
abbrev pub trace_by : Bundle → ℕ → Setting → Writes → Trace Signal
trace_by bundle bound setting writes =
    trace bound writes (body_run (statements_of bundle 0) setting (opening bundle))

-- a state in which a program of a bundle can be
abbrev pub CanStand : Bundle → State → Type 0
CanStand bundle s = IsOf bundle s × (length s.frames ≤ frame_limit)

-- as many turns of a loop as a run may have moments, and with the frames of a state as many as
-- there can be, or more
abbrev pub IsAmple : ℕ → State → ℕ → ℕ → Type 0
IsAmple bound s turns frames = (bound ≤ turns) × (frame_limit < length s.frames + frames)

-- two parts of runs, before whatever comes then and whatever is written, have one trace
abbrev pub SameTraces : {A : Type 0} → Bundle → ℕ → Run A → Run A → Type 0
SameTraces {A} bundle bound one other =
    (writes : List NumberedWrite) (next : A → State → Run Signal)
    → trace bound (writes_of bundle writes) (one >>= next)
    ≡ trace bound (writes_of bundle writes) (other >>= next)
