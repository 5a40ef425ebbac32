-- Which lines are continuations, and what is answered to one where it has come to.
use Rattle.std.proofs.Common.{◌≡◌, ℕ, List, [], ◌∷◌, ◌++◌, drop, Option, Some, None, Result, Ok, Err, refl, sym, ap, ◌∙◌, append-nil}
use Rattle.std.specs.Prelude.{IfOk}
use Rattle.dp_command.specs.declared.command.Command.{Command}
use Rattle.dp_command.specs.declared.command.Request.{Request}
use Rattle.dp_command.specs.declared.command.Request.TheVariants.{Session}
use Rattle.dp_command.specs.declared.command.SessionRequest.TheVariants.{Continue}
use Rattle.dp_command.specs.declared.command.StreamMode.{StreamMode}
use Rattle.dp_command.specs.declared.line.Line.{Line}
use Rattle.dp_command.specs.Commands.{command_of}
use Rattle.dp_command.specs.Refusals.{id_of}
use Rattle.dp_command.specs.Tests.{first_code}
use Rattle.dp_packet.specs.declared.error_codes.ErrorCode.{ErrorCode}
use Rattle.dp_packet.specs.declared.packet.Response.{Response}
use Rattle.dp_packet.specs.Parts.{Text}
use Rattle.dp_conversation.specs.declared.responder.Answer.{Answer}
use Rattle.dp_conversation.specs.Folds.{reply_of}
use Rattle.dp_engine.specs.declared.replies.Turn.{Turn as Made}
use Rattle.dp_engine.specs.declared.session.SessionEnd.{SessionEnd}
use Rattle.dp_engine.specs.declared.states.Phase.{Phase}
use Rattle.dp_engine.specs.declared.states.Phase.TheVariants.{Starting, Break, Stopping}
use Rattle.dp_engine.specs.Answers.{news, state_response, to_ide, to_program}
use Rattle.dp_engine.specs.Passes.{arrived, continuation_in, departing, going_by, going_in}
use Rattle.dp_engine.specs.Refusals.{own_tests, refusal_of_line}
use Rattle.dp_engine.specs.Responses.{response_text}
use Rattle.dp_engine.specs.Session.{State, output_so_far}
use Rattle.dp_engine.specs.inner.Turns.{IsSent, ReadsCommand, Responds}

-- ---- what asks for a continuation

-- a command that is read, if its request is one
pub read_departs : (state : State) (line : Line) (command : Command) → ReadsCommand state line (Ok command)
    → going_in state.phase command.request ≡ departing state (Some line)
read_departs state line command asks =
    by state.phase command (refusal_of_line state (Some line)) asks.0
    ∙ ap (going_by (refusal_of_line state (Some line)) state.phase) (sym asks.1) where
      none : (code : ErrorCode) (r : Request) → Some code ≡ first_code (own_tests state line.name (id_of line) r)
          → continuation_in r ≡ None
      none code (Session (Continue mode)) e = absurd cc
      none code (Session r) e = refl
      none code r e = refl

      by : (phase : Phase) (c : Command) (code : Option ErrorCode)
          → code ≡ first_code (own_tests state line.name (id_of line) c.request)
          → going_in phase c.request ≡ going_by code phase (Some c)
      by phase c None e = refl
      by Stopping c (Some code) e = refl
      by Starting c (Some code) e = none code c.request e
      by Break c (Some code) e = none code c.request e

-- none that is refused
pub refused_departs : (state : State) (line : Line) (code : ErrorCode) → refusal_of_line state (Some line) ≡ Some code
    → None ≡ departing state (Some line)
refused_departs state line code e =
    sym (ap (λ (c : Option ErrorCode). going_by c state.phase (command_of line)) e)

-- ---- what is answered

-- a turn that tells the state where the session stands
pub arrived_is : {E : Type 0} (state : State) (mode : StreamMode) (command id : Text) (shown : ℕ) (written : List ℕ)
    (response : Response) (made : Made) (reply : Result (Answer SessionEnd) E) → mode ≡ state.stdout
    → written ≡ drop shown (output_so_far state) → response ≡ state_response command id state
    → Responds response None made → IfOk reply (IsSent mode written made)
    → IfOk reply (λ x. reply_of x state ≡ arrived command id shown state)
arrived_is state mode command id shown written response made (Ok sent) m w r t s = λ i. record {
  packets = (s.packets
      ∙ (λ j. to_ide (m j) (w j) ++ news (t.before_it j) ++ response_text ((t.response_is ∙ r) j) ∷ [])
      ∙ ap (λ (l : List Text). l ++ response_text (state_response command id state) ∷ [])
      (append-nil (to_ide state.stdout (drop shown (output_so_far state))))) i;
  program = (s.program ∙ (λ j. to_program (m j) (w j))) i;
  state = state;
  ended = (s.ended ∙ t.ends) i;
}
arrived_is state mode command id shown written response made (Err e) m w r t s = tt
