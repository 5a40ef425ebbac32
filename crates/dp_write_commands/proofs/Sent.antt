-- A response is sent as a packet and tells no error.
use Rattle.std.proofs.Common.{◌≡◌, ◌≤◌, Bool, true, false, cond, [], ◌∷◌, codes, nat_le, length, refl, subst, arith}
use Rattle.std.specs.Prelude.{Result, Ok, Err, IfOk}
use Rattle.std.proofs.lemmas.Bool.{leb-true}
use Rattle.dp_command.specs.declared.command.WriteRequest.{WriteRequest}
use Rattle.dp_features.specs.Features.{Features}
use Rattle.dp_meaning.specs.declared.writes.Write.{Write}
use Rattle.dp_meaning.specs.declared.writes.WriteAnswer.{WriteAnswer}
use Rattle.dp_meaning.specs.declared.writes.WriteAnswer.TheVariants as answer
use Rattle.dp_meaning.specs.Writes.{answer_in, evaluation_setting}
use Rattle.dp_packet.specs.declared.error_codes.ErrorCode.{ErrorCode}
use Rattle.dp_packet.specs.declared.error_codes.ErrorCode.TheVariants.{ErrorEvaluatingCode}
use Rattle.dp_packet.specs.declared.packet.Body.TheVariants as body
use Rattle.dp_packet.specs.declared.packet.Packet.TheVariants as packet
use Rattle.dp_packet.specs.declared.packet.Response.{Response}
use Rattle.dp_packet.specs.Parts.{Text}
use Rattle.dp_packet.specs.Text.{text}
use Rattle.dp_packet.proofs.LengthLaws.{bare_response_short}
use Rattle.dp_state.specs.declared.state.State.{State}
use Rattle.dp_tree.specs.declared.bundle.Bundle.{Bundle}
use Rattle.dp_value.specs.declared.value.Value.{Value}
use Rattle.dp_view.specs.declared.errors.ViewError.{ViewError}
use Rattle.dp_view.specs.Answers.{and_then}
use Rattle.dp_wire.specs.Frames.{packet_limit}
use Rattle.dp_write_commands.specs.declared.commands.Written.{Written}
use Rattle.dp_write_commands.specs.Results.{Answers, IsSent}
use Rattle.dp_write_commands.specs.Requests.{requested_write}
use Rattle.dp_write_commands.specs.Responses.{responding, response_to, success, value_response, within_limit, write_response}

module _ (command id : Text) (p : length command ≤ 64) (q : length id ≤ 64) where
  bare_sent : IsSent (success command id body.Nothing)
  bare_sent = record {
    known = refl;
    short = omega (arith, bare_response_short command id ((codes "success", codes "1") ∷ []));
    no_error = λ code e. cc;
  }

  value_sent : (features : Features) (value : Value)
      → IfOk (within_limit (value_response features command id value)) IsSent
  value_sent features value = by (nat_le (length (text (packet.Response r))) packet_limit) refl where
    r : Response
    r = value_response features command id value

    by : (b : Bool) → nat_le (length (text (packet.Response r))) packet_limit ≡ b
        → IfOk (cond b (Ok r) (Err ErrorEvaluatingCode)) IsSent
    by true t =
        record {
          known = refl;
          short = leb-true (length (text (packet.Response r))) packet_limit t;
          no_error = λ code e.
              cc;
        }
    by false t = tt

  response_to_sent : (features : Features) (a : WriteAnswer) → IfOk (response_to features command id a) IsSent
  response_to_sent features answer.Set = bare_sent
  response_to_sent features (answer.Value value) = value_sent features value
  response_to_sent features other = tt

module _ (bundle : Bundle) (features : Features) (s : State) (command id : Text) (asked : WriteRequest)
    (p : length command ≤ 64) (q : length id ≤ 64) where
  response_sent : IfOk (write_response bundle features s command id asked) IsSent
  unfolding write_response
  response_sent = by (requested_write s asked) where
    by : (w : Result Write ErrorCode) → IfOk (and_then (responding bundle features s command id) w) IsSent
    by (Ok w) = response_to_sent command id p q features (answer_in (evaluation_setting bundle) w s)
    by (Err code) = tt

  pub sent : (r : Response) → write_response bundle features s command id asked ≡ Ok r → IsSent r
  sent r e = subst (λ (made : Result Response ErrorCode). IfOk made IsSent) e response_sent

  -- what a call answers
  pub answer_sent : (after : State) (result : Result Written ViewError)
      → Answers bundle features s after command id asked result → IfOk result (λ made. IsSent made.response)
  answer_sent after (Ok made) is = sent made.response is.response
  answer_sent after (Err why) is = tt
