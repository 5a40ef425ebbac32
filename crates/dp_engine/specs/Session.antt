-- What a session of the engine with one IDE knows.
use Rattle.std.specs.Prelude.{ℕ, ◌-◌, Bool, false, List, [], length, drop, Option, unwrap_or}
use Rattle.std.specs.Option.{option_map_or}
use Rattle.dp_tree.specs.declared.bundle.Bundle.{Bundle}
use Rattle.dp_break.specs.Tables.{Table, empty}
use Rattle.dp_command.specs.declared.command.Continuation.{Continuation}
use Rattle.dp_command.specs.declared.command.StreamMode.{StreamMode}
use Rattle.dp_command.specs.declared.command.StreamMode.TheVariants.{Disable}
use Rattle.dp_engine.specs.NextStop.{stop_past, table_past}
use Rattle.dp_engine.specs.Stops.{depth_of, stops}
use Rattle.dp_features.specs.Features.{Features, defaults}
use Rattle.dp_actions.specs.declared.signal.Signal.{Signal}
use Rattle.dp_meaning.specs.declared.writes.NumberedWrite.{NumberedWrite}
use Rattle.dp_meaning.specs.Trace.{Trace, moment_at, now, outcome, output, program_trace}
use Rattle.dp_state.specs.declared.moments.Outcome.{Outcome}
use Rattle.dp_state.specs.declared.state.State.{State as Program}
use Rattle.dp_state.specs.States.{file_of, opening as first_state}
use Rattle.dp_engine.specs.declared.states.Phase.{Phase}
use Rattle.dp_engine.specs.declared.states.Phase.TheVariants.{Starting, Break, Stopping}
use Rattle.dp_engine.specs.declared.states.Reason.{Reason}
use Rattle.dp_engine.specs.declared.states.Reason.TheVariants as reason

-- The program and the bound of its moments, the writes that were accepted, the number of the
-- current moment (0 before the first, and once the program has ended), the state and the reason
-- last given, the features, where output goes, the breakpoints that are held, and whether memory
-- has run out: it answers nothing more then.
pub record State : Type 0 where
  pub bundle : Bundle
  pub bound : ℕ
  pub writes : List NumberedWrite
  pub moment : ℕ
  pub phase : Phase
  pub reason : Reason
  pub features : Features
  pub stdout : StreamMode
  pub breaks : Table
  pub failed : Bool

-- what it begins with
abbrev pub opening : Bundle → ℕ → State
opening bundle bound = record {
  bundle = bundle;
  bound = bound;
  writes = [];
  moment = 0;
  phase = Starting;
  reason = reason.Ok;
  features = defaults;
  stdout = Disable;
  breaks = empty;
  failed = false;
}

-- ---- the program's run, with the writes

abbrev pub trace_of : State → Trace Signal
trace_of state = program_trace state.bundle state.bound state.writes

abbrev pub outcome_of : State → Outcome
outcome_of state = outcome state.bundle state.bound state.writes

-- all that the program writes
abbrev pub whole_output : State → List ℕ
whole_output state = output state.bundle state.bound state.writes

-- what the program has written by the current moment
abbrev pub output_at : State → List ℕ
output_at state =
    option_map_or (λ s. s.output) (now state.bundle state.bound state.writes state.moment) []

-- what the program has written so far
abbrev pub output_by : Phase → State → List ℕ
output_by Starting state = output_at state
output_by Break state = output_at state
output_by Stopping state = whole_output state

abbrev pub output_so_far : State → List ℕ
output_so_far state = output_by state.phase state

-- what the program writes from the one state to the other
abbrev pub written_between : State → State → List ℕ
written_between state next = drop (length (output_so_far state)) (output_so_far next)

-- what it writes from here to its end
abbrev pub unwritten : State → List ℕ
unwritten state = drop (length (output_so_far state)) (whole_output state)

-- ---- going on

-- the depth at the current moment
abbrev pub depth_at : State → ℕ
depth_at state = depth_of (moment_at (trace_of state) state.moment)

-- the moment at which the program stops when it goes on from here, if it stops
abbrev pub stop_of : Continuation → State → Option ℕ
stop_of mode state =
    stop_past (stops mode (depth_at state)) state.bundle state.bound state.writes state.breaks.held
    state.moment

-- the breakpoints that are held then, with their hits
abbrev pub breaks_of : Continuation → State → Table
breaks_of mode state =
    table_past (stops mode (depth_at state)) state.bundle state.bound state.writes state.breaks
    state.moment

-- ---- steps

-- how many moments of the program's run have come
abbrev pub moments_by : Phase → Bundle → ℕ → List NumberedWrite → ℕ → ℕ
moments_by Starting bundle bound writes moment = moment
moments_by Break bundle bound writes moment = moment
moments_by Stopping bundle bound writes moment =
    length (program_trace bundle bound writes).moments

abbrev pub moments_so_far : State → ℕ
moments_so_far state =
    moments_by state.phase state.bundle state.bound state.writes state.moment

-- how many come from the one state to the other
abbrev pub steps_between : State → State → ℕ
steps_between state next = moments_so_far next - moments_so_far state

-- how many come from here to its end
abbrev pub steps_left : State → ℕ
steps_left state = length (trace_of state).moments - moments_so_far state

-- ---- the program's state

-- at the current moment
abbrev pub program_at : State → Program
program_at state =
    unwrap_or (now state.bundle state.bound state.writes state.moment) (first_state state.bundle)

abbrev pub program_by : Phase → State → Program
program_by Starting state = program_at state
program_by Break state = program_at state
program_by Stopping state = (trace_of state).state

abbrev pub program_of : State → Program
program_of state = program_by state.phase state

-- the number of the file of its top frame
abbrev pub here : State → ℕ
here state = file_of (program_of state)
