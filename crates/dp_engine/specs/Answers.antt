-- What one command leads to in a session: DBGp 1.0, "status", "Options and Configuration",
-- "Continuation Commands".
use Rattle.std.specs.Prelude.{ℕ, nat_le, true, false, if◌then◌else◌, List, length, [], ◌∷◌, ◌++◌, Option, Some, None, Result, Ok, Err, is_some, option_map, option_and_then, codes}
use Rattle.std.specs.Option.{option_map_or}
use Rattle.dp_break.specs.Commands.{breakpoint_response, breakpoint_table}
use Rattle.dp_break.specs.Notices.{breakpoint_notice}
use Rattle.dp_command.specs.declared.command.Command.{Command}
use Rattle.dp_command.specs.declared.command.Continuation.{Continuation}
use Rattle.dp_command.specs.declared.command.Finish.TheVariants.{Stop, Detach}
use Rattle.dp_command.specs.declared.command.BreakpointRequest.{BreakpointRequest}
use Rattle.dp_command.specs.declared.command.LookRequest.{LookRequest}
use Rattle.dp_command.specs.declared.command.Request.{Request}
use Rattle.dp_command.specs.declared.command.Request.TheVariants as request
use Rattle.dp_command.specs.declared.command.SessionRequest.{SessionRequest}
use Rattle.dp_command.specs.declared.command.SessionRequest.TheVariants as session
use Rattle.dp_command.specs.declared.command.Stream.{Stream}
use Rattle.dp_command.specs.declared.command.Stream.TheVariants.{Stdout, Stderr}
use Rattle.dp_command.specs.declared.command.StreamMode.{StreamMode}
use Rattle.dp_command.specs.declared.command.StreamMode.TheVariants.{Disable, Copy, Redirect}
use Rattle.dp_command.specs.declared.command.WriteRequest.{WriteRequest}
use Rattle.dp_command.specs.declared.line.Line.{Line}
use Rattle.dp_command.specs.Commands.{command_of}
use Rattle.dp_command.specs.Lines.{line_of}
use Rattle.dp_command.specs.Names.{name_of}
use Rattle.dp_command.specs.Refusals.{id_of}
use Rattle.dp_features.specs.declared.feature.Feature.{Feature}
use Rattle.dp_features.specs.Features.{Features, feature_named, resolves, setting_named, value_of, with_setting}
use Rattle.dp_meaning.specs.declared.writes.Write.{Write}
use Rattle.dp_packet.specs.declared.error_codes.ErrorCode.{ErrorCode}
use Rattle.dp_packet.specs.declared.error_codes.ErrorCode.TheVariants.{UnimplementedCommand}
use Rattle.dp_packet.specs.declared.packet.Body.TheVariants as body
use Rattle.dp_packet.specs.declared.packet.Notify.{Notify}
use Rattle.dp_packet.specs.declared.packet.Response.{Response}
use Rattle.dp_packet.specs.Parts.{Text, flag}
use Rattle.dp_conversation.specs.Folds.{Reply}
use Rattle.dp_view_commands.specs.Views.{view_response}
use Rattle.dp_wire.specs.Frames.{packet_limit}
use Rattle.dp_write_commands.specs.Requests.{requested_write}
use Rattle.dp_write_commands.specs.Responses.{write_response}
use Rattle.dp_engine.specs.declared.session.Report.{Report}
use Rattle.dp_engine.specs.declared.session.SessionEnd.{SessionEnd}
use Rattle.dp_engine.specs.declared.session.SessionEnd.TheVariants.{Finished, Killed, Detached}
use Rattle.dp_engine.specs.declared.states.Phase.{Phase}
use Rattle.dp_engine.specs.declared.states.Phase.TheVariants.{Starting, Break, Stopping}
use Rattle.dp_engine.specs.declared.states.Reason.TheVariants as reason
use Rattle.dp_engine.specs.Refusals.{refusal_of_line}
use Rattle.dp_engine.specs.Responses.{notice_text, response, response_text, status_response, feature_response, set_response, success_response, fault_response, streams}
use Rattle.dp_engine.specs.Session.{State, breaks_of, here, outcome_of, program_of, stop_of, written_between}
use Rattle.dp_engine.specs.Wishes.{wishes_of}
use Rattle.dp_engine.specs.States.{phase_name, reason_name, reason_of}

-- What a command leads to: the news that go before its response, the response, what the session
-- knows then, and how it has ended, if it has. Nothing of it is text yet.
pub record Turn : Type 0 where
  pub before : Option Notify
  pub response : Response
  pub next : State
  pub ended : Option SessionEnd

-- a response that ends nothing
abbrev pub goes_on : Response → State → Turn
goes_on r next = record { before = None; response = r; next = next; ended = None }

-- ---- going on

-- at this moment the program stops
abbrev pub at_stop : State → ℕ → State
at_stop state n = record state { moment = n; phase = Break; reason = reason.Ok }

-- the program has come to its end: no moment is the current one
abbrev pub at_end : State → State
at_end state =
    record state { moment = 0; phase = Stopping; reason = reason_of (outcome_of state) }

-- where the program comes to when it goes on
abbrev pub moved : State → Option ℕ → State
moved state (Some n) = at_stop state n
moved state None = at_end state

-- a response with the state and the reason of a session
abbrev pub state_response : Text → Text → State → Response
state_response command id state =
    status_response command id (phase_name state.phase) (reason_name state.reason)

abbrev pub stopped_response : Text → Text → Response
stopped_response command id = status_response command id (codes "stopped") (codes "ok")

-- the same, with the breakpoints that are held then
abbrev pub gone_on : Continuation → State → State
gone_on mode state = moved (record state { breaks = breaks_of mode state }) (stop_of mode state)

abbrev pub advanced : Text → Text → Continuation → State → Turn
advanced command id mode state =
    let next = gone_on mode state in goes_on (state_response command id next) next

-- once the program has ended, going on ends the session
abbrev pub continued : Text → Text → Continuation → Phase → State → Turn
continued command id mode Starting state = advanced command id mode state
continued command id mode Break state = advanced command id mode state
continued command id mode Stopping state =
    record {
      before = None;
      response = stopped_response command id;
      next = state;
      ended = Some (Finished (outcome_of state));
    }

-- ---- ending the session

-- a program that has not ended is killed
abbrev pub end_by_stop : Phase → State → SessionEnd
end_by_stop Starting state = Killed
end_by_stop Break state = Killed
end_by_stop Stopping state = Finished (outcome_of state)

abbrev pub stopped : Text → Text → State → Turn
stopped command id state = record {
  before = None;
  response = stopped_response command id;
  next = state;
  ended = Some (end_by_stop state.phase state);
}

abbrev pub detached : Text → Text → State → Turn
detached command id state =
    record {
      before = None;
      response = status_response command id (codes "stopping") (codes "ok");
      next = state;
      ended = Some Detached;
    }

-- ---- features

-- a feature has a value; of commands it is known that they are there
abbrev pub feature_known : Text → Text → Text → Features → Response
feature_known command id name features =
    feature_response command id name
    (flag (option_map_or (λ feature. true) (feature_named name) (is_some (name_of name))))
    (option_map (value_of features) (feature_named name))

abbrev pub feature_answer : Text → Text → Text → State → Response
feature_answer command id name state = feature_known command id name state.features

-- the features with one set, where it can have the value
abbrev pub set_by : Option (Feature × ℕ) → Features → Features
set_by setting features = option_map_or (λ s. with_setting s features) setting features

abbrev pub feature_put : Text → Text → Text → Text → State → Turn
feature_put command id name value state =
    goes_on (set_response command id name)
    (record state { features = set_by (setting_named name value) state.features })

-- ---- where output goes

-- The program's output goes where it is told to, from the next command on. Nothing goes to its
-- stderr, and no command changes that.
abbrev pub redirected : Text → Text → Stream → StreamMode → State → Turn
redirected command id Stdout mode state =
    goes_on (success_response command id true) (record state { stdout = mode })
redirected command id Stderr mode state = goes_on (success_response command id false) state

-- ---- breakpoints, and a look at the program

-- a response, if a packet has room for it; one to a breakpoint command always finds room
abbrev pub in_packet : Text → Text → Response → Response
in_packet command id r =
    if nat_le (length (response_text r)) packet_limit then r
    else response command id [] body.Nothing

-- the breakpoints are as the command makes them, and the IDE is told of one that moved
abbrev pub breakpoints_done : Text → Text → BreakpointRequest → State → Turn
breakpoints_done command id r state =
    let resolve = resolves state.features in
    record {
      before =
          breakpoint_notice (wishes_of state.features) state.bundle (here state) state.breaks r;
      response =
          in_packet command id (breakpoint_response resolve state.bundle command id state.breaks r);
      next =
          record state {
            breaks = breakpoint_table resolve state.bundle (here state) r state.breaks;
          };
      ended = None;
    }

-- what is shown, or why it is not
abbrev pub response_in : Text → Text → Result Response ErrorCode → Response
response_in command id (Ok shown) = shown
response_in command id (Err code) = fault_response command id code

-- nothing changes
abbrev pub shown : Text → Text → LookRequest → State → Turn
shown command id r state =
    goes_on
    (response_in command id
    (view_response state.bundle (here state) state.features (program_of state) command id r))
    state

-- ---- writes

-- one write more, at the current moment
abbrev pub with_write : Write → State → State
with_write w state = record state {
  writes = state.writes ++ (record { moment = state.moment; write = w }) ∷ [];
}

-- the write that was asked for is kept exactly where a response was made to it
abbrev pub kept_if : {R : Type 0} → Result R ErrorCode → Result Write ErrorCode → State → State
kept_if (Ok told) (Ok w) state = with_write w state
kept_if told asked state = state

-- a write is accepted where it is answered: from here on the program's run is the one with it
abbrev pub written : Text → Text → WriteRequest → State → Turn
written command id r state =
    let told = write_response state.bundle state.features (program_of state) command id r in
    goes_on (response_in command id told)
    (kept_if told (requested_write (program_of state) r) state)

-- ---- commands

-- a refused command changes nothing
abbrev pub refused : Text → Text → ErrorCode → State → Turn
refused command id code state = goes_on (fault_response command id code) state

-- what is answered from the session is done
abbrev pub session_done : Text → Text → SessionRequest → State → Turn
session_done command id session.Status state = goes_on (state_response command id state) state
session_done command id (session.FeatureGet name) state =
    goes_on (feature_answer command id name state) state
session_done command id (session.FeatureSet name value) state =
    feature_put command id name value state
session_done command id (session.Continue mode) state = continued command id mode state.phase state
session_done command id (session.Finish Stop) state = stopped command id state
session_done command id (session.Finish Detach) state = detached command id state
session_done command id (session.Redirect stream mode) state =
    redirected command id stream mode state

-- what a command of this name and id asks for is done
abbrev pub performed : Text → Text → Request → State → Turn
performed command id (request.Session r) state = session_done command id r state
performed command id (request.Breakpoints r) state = breakpoints_done command id r state
performed command id (request.Look r) state = shown command id r state
performed command id (request.Write r) state = written command id r state

-- the name that a response repeats; empty where the bytes spell no line
abbrev pub command_in : Option Line → Text
command_in line = option_map_or (λ l. l.name) line []

-- the transaction id that a response repeats; empty where there is none, or the bytes spell no line
abbrev pub id_in : Option Line → Text
id_in line = option_map_or id_of line []

abbrev pub turn_by_command : Text → Text → Option Command → State → Turn
turn_by_command command id (Some c) state = performed command c.id c.request state
turn_by_command command id None state = refused command id UnimplementedCommand state

abbrev pub turn_of : Option Line → Option ErrorCode → State → Turn
turn_of line (Some code) state = refused (command_in line) (id_in line) code state
turn_of line None state =
    turn_by_command (command_in line) (id_in line) (option_and_then command_of line) state

-- what these bytes lead to
unfoldable pub turn : State → List ℕ → Turn
turn state bytes = turn_of (line_of bytes) (refusal_of_line state (line_of bytes)) state

-- ---- what is sent

-- what goes to the IDE of the program's output
abbrev pub to_ide : StreamMode → List ℕ → List Text
to_ide Disable output = []
to_ide Copy output = streams output
to_ide Redirect output = streams output

-- what goes to the program's own output
abbrev pub to_program : StreamMode → List ℕ → List ℕ
to_program Disable output = output
to_program Copy output = output
to_program Redirect output = []

-- news, if a packet has room for them; those of a breakpoint always find room
abbrev pub news : Option Notify → List Text
news None = []
news (Some n) = if nat_le (length (notice_text n)) packet_limit then notice_text n ∷ [] else []

-- the output that the program wrote in this turn goes out first, then news, and the response last
abbrev pub sent : State → Turn → Reply State SessionEnd
sent state taken = record {
  packets =
      to_ide state.stdout (written_between state taken.next) ++ news taken.before
      ++ response_text taken.response ∷ [];
  program = to_program state.stdout (written_between state taken.next);
  state = taken.next;
  ended = taken.ended;
}

-- a report of a command, with what the session knows then, as a turn
abbrev pub turn_with : Report → State → Turn
turn_with report next = record {
  before = report.before;
  response = report.response;
  next = next;
  ended = report.ended;
}

-- the answer to a command
unfoldable pub answer : State → List ℕ → Reply State SessionEnd
answer state bytes = sent state (turn state bytes)
