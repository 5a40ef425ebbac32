-- What the call of a command that writes answers: what was written, with its response, or the code
-- of a refusal; or memory runs out.
use Rattle.std.specs.Prelude.{◌≡◌, Option, None, ok_or, Result, Ok, Err}
use Rattle.dp_command.specs.declared.command.WriteRequest.{WriteRequest}
use Rattle.dp_command.specs.declared.command.WriteRequest.TheVariants as request
use Rattle.dp_features.specs.Features.{Features}
use Rattle.dp_meaning.specs.Writes.{evaluation_setting, one_write}
use Rattle.dp_packet.specs.declared.error_codes.ErrorCode.{ErrorCode}
use Rattle.dp_packet.specs.declared.error_codes.ErrorCode.TheVariants.{InvalidOptions}
use Rattle.dp_packet.specs.Parts.{Text}
use Rattle.dp_state.specs.declared.state.State.{State}
use Rattle.dp_tree.specs.declared.bundle.Bundle.{Bundle}
use Rattle.dp_view.specs.declared.errors.ViewError.{ViewError}
use Rattle.dp_view.specs.declared.errors.ViewError.TheVariants.{Code, Memory}
use Rattle.dp_view.specs.Answers.{and_then}
use Rattle.dp_view.specs.Named.{named_path}
pub use Rattle.dp_view_limits.specs.Sent.{IsSent}
use Rattle.dp_write_commands.specs.declared.commands.Written.{Written}
use Rattle.dp_write_commands.specs.Requests.{requested_value, requested_write}
use Rattle.dp_write_commands.specs.Responses.{code_in, write_response}

-- the write that was asked for was made in the state, and this is its response
pub record IsWritten (bundle : Bundle) (features : Features) (before after : State)
    (command id : Text) (asked : WriteRequest) (made : Written) : Type 0 where
  pub write : requested_write before asked ≡ Ok made.write
  pub response : write_response bundle features before command id asked ≡ Ok made.response
  pub state : after ≡ one_write (evaluation_setting bundle) made.write before

-- else nothing has changed
abbrev pub Answers : Bundle → Features → State → State → Text → Text → WriteRequest
    → Result Written ViewError → Type 0
Answers bundle features before after command id asked (Ok made) =
    IsWritten bundle features before after command id asked made
Answers bundle features before after command id asked (Err (Code code)) =
    (write_response bundle features before command id asked ≡ Err code) × (after ≡ before)
Answers bundle features before after command id asked (Err Memory) = after ≡ before

-- The code of a refusal that is reported whatever memory there is: each one of property_set, but
-- that the name is reserved and that the place cannot hold the value.
abbrev pub refusal_at_once : State → WriteRequest → Option ErrorCode
refusal_at_once s (request.PropertySet set) =
    code_in
    (and_then (λ value. named_path s set.place.level set.place.context set.place.name)
    (ok_or (requested_value set) InvalidOptions))
refusal_at_once s other = None
