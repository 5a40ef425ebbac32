-- What replies show, and which writes are kept.
use Rattle.std.proofs.Common.{◌≡◌, ◌≢◌, ℕ, List, Option, Some, None, Result, Ok, Err, not, refl, sym, ap, subst, ◌∙◌}
use Rattle.std.specs.Prelude.{[], option_map}
use Rattle.std.specs.Option.{option_map_or}
use Rattle.dp_command.specs.declared.command.Command.{Command}
use Rattle.dp_command.specs.declared.command.Continuation.{Continuation}
use Rattle.dp_command.specs.declared.command.Finish.TheVariants.{Stop, Detach}
use Rattle.dp_command.specs.declared.command.Request.{Request}
use Rattle.dp_command.specs.declared.command.LookRequest.{LookRequest}
use Rattle.dp_command.specs.declared.command.Request.TheVariants.{Session, Breakpoints, Look, Write}
use Rattle.dp_command.specs.declared.command.SessionRequest.{SessionRequest}
use Rattle.dp_command.specs.declared.command.SessionRequest.TheVariants as request
use Rattle.dp_command.specs.declared.command.WriteRequest.{WriteRequest}
use Rattle.dp_command.specs.declared.command.Stream.TheVariants.{Stdout, Stderr}
use Rattle.dp_command.specs.declared.line.Line.{Line}
use Rattle.dp_command.specs.declared.names.CommandName.{CommandName}
use Rattle.dp_command.specs.Commands.{command_as, command_of}
use Rattle.dp_command.specs.Lines.{line_of}
use Rattle.dp_command.specs.Names.{name_of}
use Rattle.dp_command.specs.Refusals.{fits_row, id_of}
use Rattle.dp_command.specs.Tests.{first_code}
use Rattle.dp_meaning.specs.declared.writes.Write.{Write as ProgramWrite}
use Rattle.dp_packet.specs.declared.error_codes.ErrorCode.{ErrorCode}
use Rattle.dp_packet.specs.declared.error_codes.ErrorCode.TheVariants.{InvalidOptions}
use Rattle.dp_packet.specs.declared.packet.Response.{Response}
use Rattle.dp_packet.specs.Parts.{Text}
use Rattle.dp_view.specs.Answers.{and_then}
use Rattle.dp_view_commands.specs.Views.{code_in, view_refusal, view_response}
use Rattle.dp_write_commands.specs.Requests.{requested_write}
use Rattle.dp_write_commands.specs.Responses.{code_in as code_written, responding, write_refusal, write_response}
use Rattle.dp_engine.specs.declared.states.Phase.{Phase}
use Rattle.dp_engine.specs.declared.states.Phase.TheVariants.{Starting, Break, Stopping}
use Rattle.dp_engine.specs.Answers.{continued, gone_on, kept_if, moved, performed, response_in, session_done, turn, turn_by_command, turn_of, with_write}
use Rattle.dp_engine.specs.Refusals.{own_tests, refusal, refusal_of_line, row_tests, tests}
use Rattle.dp_engine.specs.Session.{State, breaks_of, here, program_of, stop_of}
use Rattle.dp_session_laws.specs.Shown.{IsAccepted, IsShown, IsTaken, WritesNothing}
use Rattle.dp_engine.proofs.RefusalLaws.{allowed, first_for, passed}

-- ---- a command that is not refused

module _ (state : State) (line : Line) (command : Command) (asks : command_of line ≡ Some command) where
  -- has no refusal of its own
  own_passes : first_code (tests state line) ≡ None
      → first_code (own_tests state line.name command.id command.request) ≡ None
  own_passes e = by (name_of line.name) (allowed state line e).1 asks where
    by : (name : Option CommandName) → first_code (option_map_or (row_tests state line) name []) ≡ None
        → option_map (command_as line) name ≡ Some command
        → first_code (own_tests state line.name command.id command.request) ≡ None
    by None e f = absurd cc
    by (Some name) e f =
        let same : command_as line name ≡ command = cc in
        subst (λ (c : Command). first_code (own_tests state line.name c.id c.request) ≡ None) same
        (passed (not (fits_row name line)) InvalidOptions
        (own_tests state line.name (id_of line) (command_as line name).request)
        e).1

  -- and is done
  done_turn : (bytes : List ℕ) → line_of bytes ≡ Some line → refusal_of_line state (line_of bytes) ≡ None
      → turn_of (line_of bytes) (refusal_of_line state (line_of bytes)) state
      ≡ performed line.name command.id command.request state
  done_turn bytes spells passes =
      ap (λ (code : Option ErrorCode). turn_of (line_of bytes) code state) passes
      ∙ ap (λ (l : Option Line). turn_of l None state) spells
      ∙ ap (λ (c : Option Command). turn_by_command line.name (id_of line) c state) asks

-- what is shown of a response that is made
made_is : (command id : Text) (made : Result Response ErrorCode) → code_in made ≡ None
    → made ≡ Ok (response_in command id made)
made_is command id (Ok r) e = refl
made_is command id (Err code) e = absurd cc

-- a write that is answered is kept
record IsKept (command id : Text) (state : State) (told : Result Response ErrorCode)
    (asks : Result ProgramWrite ErrorCode) : Type 0 where
  write : ProgramWrite
  is_asked : asks ≡ Ok write
  response : told ≡ Ok (response_in command id told)
  kept : kept_if told asks state ≡ with_write write state

made_kept : (command id : Text) (state : State) (f : ProgramWrite → Result Response ErrorCode)
    (told : Result Response ErrorCode) (asks : Result ProgramWrite ErrorCode)
    → told ≡ and_then f asks → code_written told ≡ None → IsKept command id state told asks
made_kept command id state f (Ok r) (Ok w) e n = record { write = w; is_asked = refl; response = refl; kept = refl }
made_kept command id state f (Ok r) (Err code) e n = absurd cc
made_kept command id state f (Err code) asks e n = absurd cc

module _ (state : State) (bytes : List ℕ) (line : Line) (command : Command) (t : IsTaken state bytes line command) where
  none_own : first_code (own_tests state line.name command.id command.request) ≡ None
  unfolding refusal
  none_own = own_passes state line command t.asks (ap (refusal_of_line state) (sym t.spells) ∙ t.passes)

  turn_is : turn state bytes ≡ performed line.name command.id command.request state
  unfolding turn refusal
  turn_is = done_turn state line command t.asks bytes t.spells t.passes

  own_of : (r : Request) → command.request ≡ r → first_code (own_tests state line.name command.id r) ≡ None
  own_of r e = ap (λ (r : Request). first_code (own_tests state line.name command.id r)) (sym e) ∙ none_own

  turn_of_asked : (r : Request) → command.request ≡ r
      → turn state bytes ≡ performed line.name command.id r state
  turn_of_asked r e = turn_is ∙ ap (λ (r : Request). performed line.name command.id r state) e

  pub shows_program : (look : LookRequest) → command.request ≡ Look look
      → IsShown state line command look (turn state bytes)
  unfolding view_refusal
  shows_program look e =
      let none : view_refusal state.bundle (here state) state.features
      (program_of state) line.name command.id look ≡ None =
      sym (first_for (view_refusal state.bundle (here state) state.features
      (program_of state) line.name command.id look))
      ∙ own_of (Look look) e in
      subst (IsShown state line command look) (sym (turn_of_asked (Look look) e))
      (record {
        response =
            made_is line.name command.id (view_response state.bundle (here state) state.features
            (program_of state) line.name command.id look) none;
        stays = refl;
      })

  pub keeps_write : (asked : WriteRequest) → command.request ≡ Write asked
      → IsAccepted state line command asked (turn state bytes)
  unfolding write_refusal write_response
  keeps_write asked e =
      let none : write_refusal state.bundle state.features (program_of state) line.name command.id asked ≡ None =
      sym (first_for (write_refusal state.bundle state.features (program_of state) line.name command.id asked))
      ∙ own_of (Write asked) e in
      let kept = made_kept line.name command.id state (responding state.bundle state.features
      (program_of state) line.name command.id)
      (write_response state.bundle state.features (program_of state) line.name command.id asked)
      (requested_write (program_of state) asked) refl none in
      subst (IsAccepted state line command asked) (sym (turn_of_asked (Write asked) e)) (record
      { write = kept.write; requested = kept.is_asked; response = kept.response; kept = kept.kept })

-- ---- no other write is kept

gone_keeps : (mode : Continuation) (state : State) → (gone_on mode state).writes ≡ state.writes
gone_keeps mode state = by (stop_of mode state) where
  by : (stop : Option ℕ) → (moved (record state { breaks = breaks_of mode state }) stop).writes ≡ state.writes
  by None = refl
  by (Some n) = refl

continued_keeps : (command id : Text) (mode : Continuation) (phase : Phase) (state : State)
    → (continued command id mode phase state).next.writes ≡ state.writes
continued_keeps command id mode Starting state = gone_keeps mode state
continued_keeps command id mode Break state = gone_keeps mode state
continued_keeps command id mode Stopping state = refl

session_keeps : (command id : Text) (r : SessionRequest) (state : State)
    → (session_done command id r state).next.writes ≡ state.writes
session_keeps command id (request.Continue mode) state = continued_keeps command id mode state.phase state
session_keeps command id (request.Finish Stop) state = refl
session_keeps command id (request.Finish Detach) state = refl
session_keeps command id (request.Redirect Stdout mode) state = refl
session_keeps command id (request.Redirect Stderr mode) state = refl
session_keeps command id r state = refl

done_keeps : (command id : Text) (r : Request) (state : State) → ((asked : WriteRequest) → r ≢ Write asked)
    → (performed command id r state).next.writes ≡ state.writes
done_keeps command id (Session r) state h = session_keeps command id r state
done_keeps command id (Breakpoints r) state h = refl
done_keeps command id (Look r) state h = refl
done_keeps command id (Write r) state h = absurd (h r refl)

module _ (state : State) (bytes : List ℕ) (h : WritesNothing state bytes) where
  asked_keeps : (line : Line) (command : Option Command) → line_of bytes ≡ Some line → command_of line ≡ command
      → refusal state bytes ≡ None
      → (turn_by_command line.name (id_of line) command state).next.writes ≡ state.writes
  asked_keeps line None spells asks passes = refl
  asked_keeps line (Some c) spells asks passes =
      done_keeps line.name c.id c.request state
      (h line c (record { spells = spells; asks = asks; passes = passes }))

  turn_keeps : (line : Option Line) (code : Option ErrorCode) → line_of bytes ≡ line → refusal_of_line state line ≡ code
      → refusal state bytes ≡ code
      → (turn_of line code state).next.writes ≡ state.writes
  turn_keeps line (Some code) spells e passes = refl
  turn_keeps None None spells e passes = absurd cc
  turn_keeps (Some line) None spells e passes = asked_keeps line (command_of line) spells refl passes

  pub keeps_no_other : (turn state bytes).next.writes ≡ state.writes
  unfolding turn refusal
  keeps_no_other = turn_keeps (line_of bytes) (refusal_of_line state (line_of bytes)) refl refl refl
