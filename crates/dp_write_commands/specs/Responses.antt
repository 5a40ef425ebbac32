-- What a command that writes is answered: DBGp 1.0, "property_set", "eval". The order of the codes,
-- the attributes of a response and its limit are this engine's own.
use Rattle.std.specs.Prelude.{nat_le, if◌then◌else◌, [], ◌∷◌, length, codes, Option, Result, Ok, Err}
use Rattle.dp_command.specs.declared.command.WriteRequest.{WriteRequest}
use Rattle.dp_features.specs.Features.{Features}
use Rattle.dp_meaning.specs.declared.writes.WriteAnswer.{WriteAnswer}
use Rattle.dp_meaning.specs.declared.writes.WriteAnswer.TheVariants as answer
use Rattle.dp_meaning.specs.declared.writes.Write.{Write}
use Rattle.dp_meaning.specs.Writes.{answer_in, evaluation_setting}
use Rattle.dp_packet.specs.declared.error_codes.ErrorCode.{ErrorCode}
use Rattle.dp_packet.specs.declared.error_codes.ErrorCode.TheVariants.{ErrorEvaluatingCode, CannotGetProperty, StackDepthInvalid}
use Rattle.dp_packet.specs.declared.packet.Body.{Body}
use Rattle.dp_packet.specs.declared.packet.Body.TheVariants as body
use Rattle.dp_packet.specs.declared.packet.Packet.TheVariants as packet
use Rattle.dp_packet.specs.declared.packet.Response.{Response}
use Rattle.dp_packet.specs.Parts.{Text}
use Rattle.dp_packet.specs.Text.{text}
use Rattle.dp_state.specs.declared.state.State.{State}
use Rattle.dp_tree.specs.declared.bundle.Bundle.{Bundle}
use Rattle.dp_value.specs.declared.value.Value.{Value}
use Rattle.dp_value.specs.Value.{data_of}
use Rattle.dp_view.specs.declared.paging.Paging.{Paging}
use Rattle.dp_view.specs.Answers.{and_then}
pub use Rattle.dp_packet.specs.Messages.{code_in}
use Rattle.dp_view.specs.Properties.{shown}
use Rattle.dp_wire.specs.Frames.{packet_limit}
use Rattle.dp_write_commands.specs.Requests.{requested_write}

-- a command that succeeds
abbrev pub success : Text → Text → Body → Response
success command id what =
    record {
      command = command;
      id = id;
      attributes = (codes "success", codes "1") ∷ [];
      body = what;
    }

-- how much is shown of a value, as the features say
abbrev pub paging : Features → Paging
paging features = record {
  children = features.max_children;
  bytes = features.max_data;
  depth = features.max_depth;
  page = 0;
}

-- the value of an evaluation is one property without names
abbrev pub value_response : Features → Text → Text → Value → Response
value_response features command id value =
    success command id (body.Properties (shown (paging features) (data_of value) ∷ []))

-- a response, or a refusal where its text passes the limit
abbrev pub within_limit : Response → Result Response ErrorCode
within_limit r = if nat_le (length (text (packet.Response r))) packet_limit then Ok r
    else Err ErrorEvaluatingCode

-- what is answered to a write that does so; an evaluation is refused too where its value is too
-- long for a packet
abbrev pub response_to : Features → Text → Text → WriteAnswer → Result Response ErrorCode
response_to features command id answer.Set = Ok (success command id body.Nothing)
response_to features command id (answer.Value value) =
    within_limit (value_response features command id value)
response_to features command id answer.Fatal = Err ErrorEvaluatingCode
response_to features command id answer.NoFrame = Err StackDepthInvalid
response_to features command id answer.NoPlace = Err CannotGetProperty

abbrev pub responding : Bundle → Features → State → Text → Text → Write → Result Response ErrorCode
responding bundle features s command id w =
    response_to features command id (answer_in (evaluation_setting bundle) w s)

-- The response to a command of this name and transaction id in a state, or the code of its refusal.
-- The write that it asks for is made exactly where it is not refused.
unfoldable pub write_response : Bundle → Features → State → Text → Text → WriteRequest
    → Result Response ErrorCode
write_response bundle features s command id asked =
    and_then (responding bundle features s command id) (requested_write s asked)

-- the code of a refusal
unfoldable pub write_refusal : Bundle → Features → State → Text → Text → WriteRequest
    → Option ErrorCode
write_refusal bundle features s command id asked =
    code_in (write_response bundle features s command id asked)
