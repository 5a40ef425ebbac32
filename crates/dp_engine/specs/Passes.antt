-- A continuation that is passed moment by moment: what asks for one, what its next moment comes to,
-- and what is answered where it has come to. Together they are the answer to its command:
-- `passing_is_answering` of dp_session_laws.
use Rattle.std.specs.Prelude.{◌≡◌, ℕ, Bool, true, false, ◌∷◌, [], ◌++◌, drop, length, Option, Some, None, option_and_then}
use Rattle.std.specs.List.{AllByRecursion}
use Rattle.dp_command.specs.declared.addressee.Addressee.{Addressee}
use Rattle.dp_command.specs.declared.command.Command.{Command}
use Rattle.dp_command.specs.declared.command.Continuation.{Continuation}
use Rattle.dp_command.specs.declared.command.Request.{Request}
use Rattle.dp_command.specs.declared.command.Request.TheVariants as request
use Rattle.dp_command.specs.declared.command.SessionRequest.TheVariants as session
use Rattle.dp_command.specs.declared.line.Line.{Line}
use Rattle.dp_command.specs.Commands.{command_of}
use Rattle.dp_packet.specs.declared.error_codes.ErrorCode.{ErrorCode}
use Rattle.dp_packet.specs.Parts.{Text}
use Rattle.dp_conversation.specs.Folds.{Reply, reply_of}
use Rattle.dp_wire.specs.Frames.{IsPacketText}
use Rattle.dp_engine.specs.declared.passes.Departure.{Departure}
use Rattle.dp_engine.specs.declared.passes.Departure.TheVariants.{Answered, Goes}
use Rattle.dp_engine.specs.declared.passes.Going.{Going}
use Rattle.dp_engine.specs.declared.passes.Passing.{Passing}
use Rattle.dp_engine.specs.declared.passes.Passing.TheVariants.{On, Stop, End}
use Rattle.dp_engine.specs.declared.session.SessionEnd.{SessionEnd}
use Rattle.dp_engine.specs.declared.states.Phase.{Phase}
use Rattle.dp_engine.specs.declared.states.Phase.TheVariants.{Starting, Break, Stopping}
use Rattle.dp_engine.specs.Answers.{command_in, id_in, moved, sent, state_response, to_ide, to_program, turn_of}
use Rattle.dp_engine.specs.NextStop.{every, stop_past, stops_next, table_past}
use Rattle.dp_engine.specs.Refusals.{refusal_of_line}
use Rattle.dp_engine.specs.Responses.{response_text}
use Rattle.dp_engine.specs.Session.{State, depth_at, output_so_far}
use Rattle.dp_engine.specs.Stops.{stops}

-- ---- what one is on its way

-- which it is
abbrev pub mode_of : Going → Continuation
mode_of going = going.mode

-- the name of its command and the id, which its response repeats
abbrev pub addressee_of : Going → Addressee
addressee_of going = going.to

-- the depth from which it went on
abbrev pub depth_from : Going → ℕ
depth_from going = going.depth

-- how much of the program's output was shown before
abbrev pub shown_before : Going → ℕ
shown_before going = going.shown

-- ---- what asks for one

abbrev pub continuation_in : Request → Option Continuation
continuation_in (request.Session (session.Continue mode)) = Some mode
continuation_in other = None

-- a program goes on before its end alone
abbrev pub going_in : Phase → Request → Option Continuation
going_in Starting r = continuation_in r
going_in Break r = continuation_in r
going_in Stopping r = None

abbrev pub going_by : Option ErrorCode → Phase → Option Command → Option Continuation
going_by (Some code) phase command = None
going_by None phase None = None
going_by None phase (Some c) = going_in phase c.request

-- the continuation that a line asks for, where it is not refused and the program has not ended
abbrev pub departing : State → Option Line → Option Continuation
departing state line =
    going_by (refusal_of_line state line) state.phase (option_and_then command_of line)

-- A continuation that this line asks for: its response repeats the name and the id of the line, it
-- goes on from the depth where the session stands, and what the program had written was shown.
pub record SetsOut (state : State) (line : Option Line) (going : Going) : Type 0 where
  pub requested : departing state line ≡ Some (mode_of going)
  pub command : (addressee_of going).command ≡ command_in line
  pub id : (addressee_of going).id ≡ id_in line
  pub depth : depth_from going ≡ depth_at state
  pub shown : shown_before going ≡ length (output_so_far state)

-- what a session, which knows this then, gives of a line: a continuation, and nothing has changed,
-- or the answer
abbrev pub Departs : State → Option Line → State → Departure → Type 0
Departs state line next (Goes going) = SetsOut state line going × (next ≡ state)
Departs state line next (Answered answer) =
    (departing state line ≡ None)
    × (reply_of answer next ≡ sent state (turn_of line (refusal_of_line state line) state))

-- its texts are those of packets
abbrev pub AreTextsOf : Departure → Type 0
AreTextsOf (Goes going) = Unit {0}
AreTextsOf (Answered answer) = AllByRecursion IsPacketText answer.packets

-- ---- one moment

-- where the program stands once the next moment has come, or the end, with the hits of that moment
abbrev pub passed_on : State → State
passed_on state =
    moved (record state {
      breaks = table_past every state.bundle state.bound state.writes state.breaks state.moment;
    })
    (stop_past every state.bundle state.bound state.writes state.breaks.held state.moment)

abbrev pub passed_by : Phase → State → State
passed_by Starting state = passed_on state
passed_by Break state = passed_on state
passed_by Stopping state = state

-- the same of a session, which may have come to the end
abbrev pub passed : State → State
passed state = passed_by state.phase state

-- what a moment is to a continuation: the program goes on, or it stops there
abbrev pub passing_if : Bool → Passing
passing_if true = Stop
passing_if false = On

abbrev pub passing_at : Option ℕ → Bool → Passing
passing_at (Some n) stops = passing_if stops
passing_at None stops = End

abbrev pub passing_on : Continuation → ℕ → State → Passing
passing_on mode depth state =
    passing_at
    (stop_past every state.bundle state.bound state.writes state.breaks.held state.moment)
    (stops_next (stops mode depth) state.bundle state.bound state.writes state.breaks.held
    state.moment)

abbrev pub passing_by : Phase → Continuation → ℕ → State → Passing
passing_by Starting mode depth state = passing_on mode depth state
passing_by Break mode depth state = passing_on mode depth state
passing_by Stopping mode depth state = End

-- what the next moment is to a continuation that went on from this depth
abbrev pub passing : Continuation → ℕ → State → Passing
passing mode depth state = passing_by state.phase mode depth state

-- ---- the answer

-- What is answered to a continuation where its session stands: what the program wrote past what was
-- shown, and the response with the state.
abbrev pub arrived : Text → Text → ℕ → State → Reply State SessionEnd
arrived command id shown state =
    let written = drop shown (output_so_far state) in
    record {
      packets =
          to_ide state.stdout written ++ response_text (state_response command id state) ∷ [];
      program = to_program state.stdout written;
      state = state;
      ended = None;
    }
