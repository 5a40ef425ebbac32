-- What a continuation answers that is passed moment by moment: the answer to its command.
use Rattle.std.proofs.Common.{◌≡◌, ℕ, suc, ◌+◌, [], ◌∷◌, ◌++◌, drop, length, List, Option, Some, None, refl, sym, ap, ◌∙◌, append-nil, arith}
use Rattle.std.specs.Prelude.{option_and_then, option_map}
use Rattle.dp_command.specs.declared.command.Continuation.{Continuation}
use Rattle.dp_command.specs.declared.command.Request.{Request}
use Rattle.dp_command.specs.declared.command.Request.TheVariants.{Session}
use Rattle.dp_command.specs.declared.command.SessionRequest.TheVariants.{Continue}
use Rattle.dp_command.specs.declared.line.Line.{Line}
use Rattle.dp_command.specs.declared.names.CommandName.{CommandName}
use Rattle.dp_command.specs.Commands.{command_as, command_of, request_of}
use Rattle.dp_command.specs.Lines.{line_of}
use Rattle.dp_command.specs.Names.{name_of}
use Rattle.dp_command.specs.Refusals.{id_of}
use Rattle.dp_packet.specs.declared.error_codes.ErrorCode.{ErrorCode}
use Rattle.dp_packet.specs.Parts.{Text}
use Rattle.dp_engine.specs.declared.states.Phase.{Phase}
use Rattle.dp_engine.specs.declared.states.Phase.TheVariants.{Starting, Break, Stopping}
use Rattle.dp_engine.specs.Answers.{advanced, answer, command_in, continued, gone_on, id_in, moved, performed, sent, state_response, to_ide, to_program, turn, turn_by_command, turn_of}
use Rattle.dp_engine.specs.Passed.{StopsPast, passed_all}
use Rattle.dp_engine.specs.Passes.{arrived, departing, going_by, going_in}
use Rattle.dp_engine.specs.Refusals.{refusal_of_line}
use Rattle.dp_engine.specs.Responses.{response_text}
use Rattle.dp_engine.specs.Session.{State, breaks_of, depth_at, output_so_far, stop_of}
use Rattle.dp_engine.proofs.PassedMoments.{goes_before, passes_all}

module _ (state : State) (mode : Continuation) where
  goes_on_by : (command id : Text) (phase : Phase) (r : Request) → state.phase ≡ phase → going_in phase r ≡ Some mode
      → performed command id r state ≡ advanced command id mode state
  goes_on_by command id Starting (Session (Continue m)) at e =
      let same : m ≡ mode = cc in
      ap (λ (p : Phase). continued command id m p state) at
      ∙ ap (λ (m : Continuation). advanced command id m state) same
  goes_on_by command id Break (Session (Continue m)) at e =
      let same : m ≡ mode = cc in
      ap (λ (p : Phase). continued command id m p state) at
      ∙ ap (λ (m : Continuation). advanced command id m state) same
  goes_on_by command id Stopping r at e = absurd cc
  goes_on_by command id Starting (Session r) at e = absurd cc
  goes_on_by command id Break (Session r) at e = absurd cc
  goes_on_by command id Starting r at e = absurd cc
  goes_on_by command id Break r at e = absurd cc

  line_goes : (line : Option Line) (code : Option ErrorCode)
      → going_by code state.phase (option_and_then command_of line) ≡ Some mode
      → turn_of line code state ≡ advanced (command_in line) (id_in line) mode state
  line_goes line (Some code) e = absurd cc
  line_goes None None e = absurd cc
  line_goes (Some line) None e = by (name_of line.name) e where
    by : (name : Option CommandName) → going_by None state.phase (option_map (command_as line) name) ≡ Some mode
        → turn_by_command line.name (id_of line) (option_map (command_as line) name) state
        ≡ advanced line.name (id_of line) mode state
    by None e = absurd cc
    by (Some name) e = goes_on_by line.name (id_of line) state.phase (request_of name line) refl e

-- where output goes stays
moved_stdout : (state : State) (stop : Option ℕ) → (moved state stop).stdout ≡ state.stdout
moved_stdout state None = refl
moved_stdout state (Some n) = refl

pub passing_answers : (state : State) (bytes : List ℕ) (mode : Continuation) (k : ℕ)
    → departing state (line_of bytes) ≡ Some mode → StopsPast k mode (depth_at state) state
    → arrived (command_in (line_of bytes)) (id_in (line_of bytes)) (length (output_so_far state))
    (passed_all (k + 1) state) ≡ answer state bytes
unfolding answer turn
passing_answers state bytes mode k asked past =
    let command = command_in (line_of bytes) in
    let id = id_in (line_of bytes) in
    let shown = length (output_so_far state) in
    let gone = gone_on mode state in
    let more : k + 1 ≡ suc k = omega arith in
    let out : gone.stdout ≡ state.stdout =
    moved_stdout (record state { breaks = breaks_of mode state }) (stop_of mode state) in
    ap (λ (n : ℕ). arrived command id shown (passed_all n state)) more
    ∙ ap (arrived command id shown)
    (passes_all mode (depth_at state) k state (goes_before state (line_of bytes) mode asked) past)
    ∙ (λ i. record {
      packets = to_ide (out i) (drop shown (output_so_far gone)) ++ response_text (state_response command id gone) ∷ [];
      program = to_program (out i) (drop shown (output_so_far gone));
      state = gone;
      ended = None;
    })
    ∙ ap (λ (l : List Text). record {
      packets = l ++ response_text (state_response command id gone) ∷ [];
      program = to_program state.stdout (drop shown (output_so_far gone));
      state = gone;
      ended = None;
    }) (sym (append-nil (to_ide state.stdout (drop shown (output_so_far gone)))))
    ∙ ap (sent state) (sym (line_goes state mode (line_of bytes) (refusal_of_line state (line_of bytes)) asked))
