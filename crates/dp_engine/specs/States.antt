-- The states of a session, their reasons, and which commands they allow: DBGp 1.0, "status", "Core
-- Commands", "Extended Commands". Which commands a state allows is this engine's own where the
-- standard leaves it open.
use Rattle.std.specs.Prelude.{ℕ, Bool, true, false, List, codes}
use Rattle.dp_command.specs.declared.names.CommandName.{CommandName}
use Rattle.dp_command.specs.declared.names.CommandName.TheVariants.{Status, FeatureGet, FeatureSet, Run, StepInto, StepOver, StepOut, Stop, Detach, BreakpointSet, BreakpointGet, BreakpointRemove, BreakpointUpdate, BreakpointList, StackDepth, StackGet, ContextNames, ContextGet, PropertyGet, PropertyValue, PropertySet, Source, Stdout, Stderr, Eval}
use Rattle.dp_state.specs.declared.moments.Outcome.{Outcome}
use Rattle.dp_state.specs.declared.moments.Outcome.TheVariants.{Done, Exit, Fatal, Bound}
use Rattle.dp_engine.specs.declared.states.Phase.{Phase}
use Rattle.dp_engine.specs.declared.states.Phase.TheVariants.{Starting, Break, Stopping}
use Rattle.dp_engine.specs.declared.states.Reason.{Reason}
use Rattle.dp_engine.specs.declared.states.Reason.TheVariants as reason

abbrev pub phase_name : Phase → List ℕ
phase_name Starting = codes "starting"
phase_name Break = codes "break"
phase_name Stopping = codes "stopping"

abbrev pub reason_name : Reason → List ℕ
reason_name reason.Ok = codes "ok"
reason_name reason.Error = codes "error"
reason_name reason.Aborted = codes "aborted"

-- the reason that a program's end gives
abbrev pub reason_of : Outcome → Reason
reason_of Done = reason.Ok
reason_of (Exit status) = reason.Ok
reason_of (Fatal kind file line) = reason.Error
reason_of Bound = reason.Aborted

-- before the end of the program
abbrev pub before_end : Phase → Bool
before_end Starting = true
before_end Break = true
before_end Stopping = false

-- at a moment of the program
abbrev pub at_moment : Phase → Bool
at_moment Starting = false
at_moment Break = true
at_moment Stopping = false

-- the state allows the command
abbrev pub allows : Phase → CommandName → Bool
allows phase Status = true
allows phase FeatureGet = true
allows phase FeatureSet = before_end phase
allows phase Run = true
allows phase StepInto = true
allows phase StepOver = true
allows phase StepOut = true
allows phase Stop = true
allows phase Detach = true
allows phase BreakpointSet = before_end phase
allows phase BreakpointGet = before_end phase
allows phase BreakpointRemove = before_end phase
allows phase BreakpointUpdate = before_end phase
allows phase BreakpointList = before_end phase
allows phase StackDepth = at_moment phase
allows phase StackGet = at_moment phase
allows phase ContextNames = before_end phase
allows phase ContextGet = at_moment phase
allows phase PropertyGet = at_moment phase
allows phase PropertyValue = at_moment phase
allows phase PropertySet = at_moment phase
allows phase Source = before_end phase
allows phase Stdout = before_end phase
allows phase Stderr = before_end phase
allows phase Eval = at_moment phase
