-- A response to a command that writes is no error, however long its name and id are.
use Rattle.std.proofs.Common.{◌≡◌, ◌≢◌, ℕ, Bool, true, false, cond, Result, Ok, Err, nat_le, length, subst}
use Rattle.std.specs.Prelude.{IfOk}
use Rattle.dp_command.specs.declared.command.WriteRequest.{WriteRequest}
use Rattle.dp_features.specs.Features.{Features}
use Rattle.dp_meaning.specs.declared.writes.Write.{Write}
use Rattle.dp_meaning.specs.declared.writes.WriteAnswer.{WriteAnswer}
use Rattle.dp_meaning.specs.declared.writes.WriteAnswer.TheVariants as answer
use Rattle.dp_meaning.specs.Writes.{answer_in, evaluation_setting}
use Rattle.dp_packet.specs.declared.error_codes.ErrorCode.{ErrorCode}
use Rattle.dp_packet.specs.declared.error_codes.ErrorCode.TheVariants.{ErrorEvaluatingCode}
use Rattle.dp_packet.specs.declared.packet.Body.TheVariants as body
use Rattle.dp_packet.specs.declared.packet.Packet.TheVariants as packet
use Rattle.dp_packet.specs.declared.packet.Response.{Response}
use Rattle.dp_packet.specs.Parts.{Text}
use Rattle.dp_packet.specs.Text.{text}
use Rattle.dp_state.specs.declared.state.State.{State}
use Rattle.dp_tree.specs.declared.bundle.Bundle.{Bundle}
use Rattle.dp_view.specs.Answers.{and_then}
use Rattle.dp_wire.specs.Frames.{packet_limit}
use Rattle.dp_write_commands.specs.Requests.{requested_write}
use Rattle.dp_write_commands.specs.Responses.{responding, response_to, value_response, within_limit, write_response}

abbrev TellsNoError : Response → Type 0
TellsNoError r = (code : ℕ) → r.body ≢ body.Fault code

limit_no_error : (r : Response) → TellsNoError r → IfOk (within_limit r) TellsNoError
limit_no_error r h = by (nat_le (length (text (packet.Response r))) packet_limit) where
  by : (b : Bool) → IfOk (cond b (Ok r) (Err ErrorEvaluatingCode)) TellsNoError
  by true = h
  by false = tt

module _ (bundle : Bundle) (features : Features) (s : State) (command id : Text) (asked : WriteRequest) where
  answer_no_error : (a : WriteAnswer) → IfOk (response_to features command id a) TellsNoError
  answer_no_error answer.Set = λ code e. cc
  answer_no_error (answer.Value value) = limit_no_error (value_response features command id value) (λ code e. cc)
  answer_no_error other = tt

  response_no_error : IfOk (write_response bundle features s command id asked) TellsNoError
  unfolding write_response
  response_no_error = by (requested_write s asked) where
    by : (w : Result Write ErrorCode) → IfOk (and_then (responding bundle features s command id) w) TellsNoError
    by (Ok w) = answer_no_error (answer_in (evaluation_setting bundle) w s)
    by (Err code) = tt

  pub no_error : (r : Response) → write_response bundle features s command id asked ≡ Ok r → (code : ℕ)
      → r.body ≢ body.Fault code
  no_error r e = subst (λ (made : Result Response ErrorCode). IfOk made TellsNoError) e response_no_error
