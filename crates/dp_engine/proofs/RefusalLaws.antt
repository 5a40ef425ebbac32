-- A response is an error exactly where the command is refused, and with that code.
use Rattle.std.proofs.Common.{◌≡◌, ◌≢◌, ℕ, Bool, true, false, not, List, [], ◌∷◌, ◌++◌, length, drop, Option, Some, None, refl, sym, ap, subst, ◌∙◌, arith}
use Rattle.std.specs.Prelude.{if◌then◌else◌, nat_le, option_map, Result, Ok, Err, IfOk}
use Rattle.std.specs.Option.{option_map_or}
use Rattle.std.proofs.lemmas.List.{drop_all}
use Rattle.dp_view_commands.specs.Views.{code_in, view_refusal, view_response}
use Rattle.dp_view_commands.proofs.Sent.{sent as shows}
use Rattle.dp_write_commands.specs.Responses.{code_in as code_written, write_refusal, write_response}
use Rattle.dp_engine.proofs.WriteAnswers.{no_error}
use Rattle.dp_packet.specs.declared.error_codes.ErrorCode.{ErrorCode}
use Rattle.dp_packet.specs.declared.error_codes.ErrorCode.TheVariants.{InvalidOptions, CommandNotAvailable}
use Rattle.dp_packet.specs.declared.packet.Body.{Body}
use Rattle.dp_packet.specs.declared.packet.Body.TheVariants as body
use Rattle.dp_packet.specs.declared.packet.Response.{Response}
use Rattle.dp_command.specs.declared.command.BreakpointAction.TheVariants.{Get, Remove}
use Rattle.dp_command.specs.declared.command.BreakpointRequest.{BreakpointRequest}
use Rattle.dp_command.specs.declared.command.BreakpointRequest.TheVariants as asked
use Rattle.dp_command.specs.declared.command.Finish.TheVariants.{Stop, Detach}
use Rattle.dp_command.specs.declared.command.LookRequest.{LookRequest}
use Rattle.dp_command.specs.declared.command.Request.{Request}
use Rattle.dp_command.specs.declared.command.Request.TheVariants.{Session, Breakpoints, Look, Write}
use Rattle.dp_command.specs.declared.command.SessionRequest.{SessionRequest}
use Rattle.dp_command.specs.declared.command.SessionRequest.TheVariants as session
use Rattle.dp_command.specs.declared.command.Stream.TheVariants.{Stdout, Stderr}
use Rattle.dp_command.specs.declared.command.WriteRequest.{WriteRequest}
use Rattle.dp_break.specs.Tables.{Table}
use Rattle.dp_break.specs.Commands.{breakpoint_response}
use Rattle.dp_tree.specs.declared.bundle.Bundle.{Bundle}
use Rattle.dp_wire.specs.Frames.{packet_limit}
use Rattle.dp_command.specs.declared.command.Continuation.{Continuation}
use Rattle.dp_command.specs.declared.command.StreamMode.{StreamMode}
use Rattle.dp_command.specs.declared.command.StreamMode.TheVariants.{Disable, Copy, Redirect}
use Rattle.dp_command.specs.declared.line.Line.{Line}
use Rattle.dp_command.specs.declared.names.CommandName.{CommandName}
use Rattle.dp_command.specs.declared.names.CommandName.TheVariants.{PropertySet, Eval}
use Rattle.dp_command.specs.Commands.{request_of}
use Rattle.dp_command.specs.Lines.{line_of}
use Rattle.dp_command.specs.Names.{name_of}
use Rattle.dp_command.specs.Refusals.{fits_row, id_of}
use Rattle.dp_command.specs.Tests.{Test, first_code}
use Rattle.dp_engine.specs.declared.states.Phase.{Phase}
use Rattle.dp_engine.specs.declared.states.Phase.TheVariants.{Starting, Break, Stopping}
use Rattle.dp_conversation.specs.declared.responder.Answer.{Answer}
use Rattle.dp_conversation.specs.Folds.{reply_of}
use Rattle.dp_engine.specs.declared.session.SessionEnd.{SessionEnd}
use Rattle.dp_engine.specs.Answers.{Turn, answer, command_in, continued, id_in, in_packet, news, performed, refused, response_in, sent, session_done, shown, to_ide, to_program, turn, turn_by_command, turn_of, written}
use Rattle.dp_engine.specs.Refused.{IsAnsweredBy, error_alone}
use Rattle.dp_engine.specs.Refusals.{of_command, own_tests, row_tests, tests, tests_for, refusal, refusal_of_line}
use Rattle.dp_engine.specs.Responses.{fault_in, response, response_text, value_body}
use Rattle.dp_engine.specs.Session.{State, here, output_so_far, program_of, written_between}
use Rattle.dp_engine.specs.States.{allows, at_moment}
use Rattle.dp_engine.specs.inner.Turns.{IsTimely}
use Rattle.dp_packet.specs.Messages.{number}
use Rattle.dp_packet.specs.Parts.{Text}

-- the first test does not hold
pub passed : (holds : Bool) (code : ErrorCode) (more : List Test) → first_code ((holds, code) ∷ more) ≡ None
    → (holds ≡ false) × (first_code more ≡ None)
passed true code more e = absurd cc
passed false code more e = (refl, e)

pub first_for : (code : Option ErrorCode) → first_code (tests_for code) ≡ code
first_for None = refl
first_for (Some code) = refl

-- the code of the error that a turn answers, if it answers one
abbrev pub fault_of : Turn → Option ℕ
fault_of t = fault_in t.response.body

value_is_none : (value : Option Text) → fault_in (value_body value) ≡ None
value_is_none None = refl
value_is_none (Some value) = refl

continued_none : (command id : Text) (mode : Continuation) (phase : Phase) (state : State)
    → fault_of (continued command id mode phase state) ≡ None
continued_none command id mode Starting state = refl
continued_none command id mode Break state = refl
continued_none command id mode Stopping state = refl

none_in : (what : Body) → ((code : ℕ) → what ≢ body.Fault code) → fault_in what ≡ None
none_in (body.Fault code) h = absurd (h code refl)
none_in what h = refl

-- what is answered from the session is no error
session_none : (command id : Text) (r : SessionRequest) (state : State)
    → fault_of (session_done command id r state) ≡ None
session_none command id session.Status state = refl
session_none command id (session.FeatureGet name) state = value_is_none _
session_none command id (session.FeatureSet name value) state = refl
session_none command id (session.Continue mode) state = continued_none command id mode state.phase state
session_none command id (session.Finish Stop) state = refl
session_none command id (session.Finish Detach) state = refl
session_none command id (session.Redirect Stdout mode) state = refl
session_none command id (session.Redirect Stderr mode) state = refl

-- what is shown is no error where the request is not refused
shown_none : (command id : Text) (r : LookRequest) (state : State)
    → view_refusal state.bundle (here state) state.features (program_of state) command id r ≡ None
    → fault_of (shown command id r state) ≡ None
unfolding view_refusal
shown_none command id r state e =
    by (view_response state.bundle (here state) state.features (program_of state) command id r) refl e where
      by : (made : Result Response ErrorCode)
          → view_response state.bundle (here state) state.features (program_of state) command id r ≡ made
          → code_in made ≡ None → fault_in (response_in command id made).body ≡ None
      by (Ok response) is e =
          none_in response.body (shows state.bundle (here state) state.features
          (program_of state) command id r response is).no_error
      by (Err code) is e = absurd cc

-- nor is the response to a write
written_none : (command id : Text) (r : WriteRequest) (state : State)
    → write_refusal state.bundle state.features (program_of state) command id r ≡ None
    → fault_of (written command id r state) ≡ None
unfolding write_refusal
written_none command id r state e =
    by (write_response state.bundle state.features (program_of state) command id r) refl e where
      by : (made : Result Response ErrorCode)
          → write_response state.bundle state.features (program_of state) command id r
          ≡ made
          → code_written made ≡ None → fault_in (response_in command id made).body ≡ None
      by (Ok response) is e =
          none_in response.body (no_error state.bundle state.features (program_of state) command id r response is)
      by (Err code) is e = absurd cc

-- a response to breakpoint commands is no error
breakpoint_none : (resolve : Bool) (bundle : Bundle) (command id : Text) (t : Table) (r : BreakpointRequest)
    → fault_in (breakpoint_response resolve bundle command id t r).body ≡ None
breakpoint_none resolve bundle command id t (asked.Set set) = refl
breakpoint_none resolve bundle command id t (asked.One Get number) = refl
breakpoint_none resolve bundle command id t (asked.One Remove number) = refl
breakpoint_none resolve bundle command id t (asked.Update update) = refl
breakpoint_none resolve bundle command id t asked.List = refl

in_packet_none : (command id : Text) (r : Response) → fault_in r.body ≡ None
    → fault_in (in_packet command id r).body ≡ None
in_packet_none command id r e = by (nat_le (length (response_text r)) packet_limit) where
  by : (b : Bool) → fault_in (if b then r else response command id [] body.Nothing).body ≡ None
  by true = e
  by false = refl

-- what is asked for is done
done : (command id : Text) (r : Request) (state : State) → first_code (own_tests state command id r) ≡ None
    → fault_of (performed command id r state) ≡ None
done command id (Session r) state e = session_none command id r state
done command id (Breakpoints r) state e =
    in_packet_none command id _ (breakpoint_none _ state.bundle command id state.breaks r)
done command id (Look r) state e =
    shown_none command id r state
    (sym (first_for (view_refusal state.bundle (here state) state.features (program_of state) command id r)) ∙ e)
done command id (Write r) state e =
    written_none command id r state
    (sym (first_for (write_refusal state.bundle state.features (program_of state) command id r)) ∙ e)

not_false : (b : Bool) → not b ≡ false → b ≡ true
not_false true h = refl
not_false false h = absurd cc

-- the tests behind the first ones
abbrev pub later_tests : ℕ → State → Line → List Test
later_tests count state line = drop count (tests state line)

-- the fourth test of a line is on its name and the state
pub allowed : (state : State) (line : Line) → first_code (tests state line) ≡ None
    → (of_command (allows state.phase) (name_of line.name) ≡ true)
    × (first_code (option_map_or (row_tests state line) (name_of line.name) []) ≡ None)
allowed state line e =
    let name = of_command (allows state.phase) (name_of line.name) in
    let admitted = passed _ _ (later_tests 1 state line) e in
    let named = passed _ _ (later_tests 2 state line) admitted.1 in
    let numbered = passed _ _ (later_tests 3 state line) named.1 in
    let free = passed (not name) CommandNotAvailable (later_tests 4 state line) numbered.1 in
    (not_false name free.0, free.1)

taken : (state : State) (line : Line) (name : Option CommandName) → of_command (allows state.phase) name ≡ true
    → first_code (option_map_or (row_tests state line) name []) ≡ None
    → fault_of (turn_by_command line.name (id_of line)
    (option_map (λ n. record { id = id_of line; request = request_of n line }) name) state) ≡ None
taken state line None a e = absurd cc
taken state line (Some name) a e =
    done line.name (id_of line) (request_of name line) state
    (passed (not (fits_row name line)) InvalidOptions
    (own_tests state line.name (id_of line) (request_of name line)) e).1

turn_cases : (line : Option Line) (state : State) (code : Option ErrorCode) → refusal_of_line state line ≡ code
    → fault_of (turn_of line code state) ≡ option_map number code
turn_cases line state (Some code) e = refl
turn_cases None state None e = absurd cc
turn_cases (Some line) state None e = let a = allowed state line e in taken state line (name_of line.name) a.0 a.1

pub refused_exactly : (state : State) (bytes : List ℕ)
    → fault_of (turn state bytes) ≡ option_map number (refusal state bytes)
unfolding turn refusal
refused_exactly state bytes = turn_cases (line_of bytes) state (refusal_of_line state (line_of bytes)) refl

-- ---- where a command may write

at_break : (phase : Phase) → at_moment phase ≡ true → phase ≡ Break
at_break Starting e = absurd cc
at_break Break e = refl
at_break Stopping e = absurd cc

-- in a break alone
pub writes_at_break : (name : CommandName) (line : Line) (phase : Phase) → allows phase name ≡ true
    → IsTimely phase (request_of name line)
unfolding request_of
writes_at_break PropertySet line phase a = at_break phase a
writes_at_break Eval line phase a = at_break phase a
writes_at_break other line phase a = tt

-- ---- what is answered

-- nothing is written where nothing has changed
nothing_written : (state : State) → written_between state state ≡ []
nothing_written state = drop_all (length (output_so_far state)) (output_so_far state) (omega arith)

none_to_ide : (mode : StreamMode) → to_ide mode [] ≡ []
none_to_ide Disable = refl
none_to_ide Copy = refl
none_to_ide Redirect = refl

none_to_program : (mode : StreamMode) → to_program mode [] ≡ []
none_to_program Disable = refl
none_to_program Copy = refl
none_to_program Redirect = refl

-- a refusal is sent alone
refusal_alone : (state : State) (bytes : List ℕ) (code : ErrorCode)
    → sent state (refused (command_in (line_of bytes)) (id_in (line_of bytes)) code state) ≡ error_alone state bytes
    code
refusal_alone state bytes code = λ i. record {
  packets =
      (ap (to_ide state.stdout) (nothing_written state) ∙ none_to_ide state.stdout) i ++ []
      ++ response_text (refused (command_in (line_of bytes)) (id_in (line_of bytes)) code state).response ∷ [];
  program = (ap (to_program state.stdout) (nothing_written state) ∙ none_to_program state.stdout) i;
  state = state;
  ended = None;
}

answered_as : (state : State) (bytes : List ℕ) (code : Option ErrorCode) → refusal_of_line state (line_of bytes) ≡ code
    → IsAnsweredBy code state bytes (sent state (turn_of (line_of bytes) code state))
answered_as state bytes (Some code) e = refusal_alone state bytes code
answered_as state bytes None e = record {
  before =
      to_ide state.stdout (written_between state (turn_of (line_of bytes) None state).next)
      ++ news (turn_of (line_of bytes) None state).before;
  response = (turn_of (line_of bytes) None state).response;
  last = refl;
  no_error = turn_cases (line_of bytes) state None e;
}

is_answered : (state : State) (bytes : List ℕ) → IsAnsweredBy (refusal state bytes) state bytes (answer state bytes)
unfolding turn refusal answer
is_answered state bytes = answered_as state bytes (refusal_of_line state (line_of bytes)) refl

-- an answer that is the reply is one by the code
pub answered_by_code : {E : Type 0} (state next : State) (bytes : List ℕ) (made : Result (Answer SessionEnd) E)
    → IfOk made (λ x. reply_of x next ≡ answer state bytes)
    → IfOk made (λ x. IsAnsweredBy (refusal state bytes) state bytes (reply_of x next))
answered_by_code state next bytes (Ok x) is =
    subst (IsAnsweredBy (refusal state bytes) state bytes) (sym is) (is_answered state bytes)
answered_by_code state next bytes (Err e) is = tt
