-- What the call of a command answers: a response or the code of a refusal; or memory runs out.
use Rattle.std.specs.Prelude.{◌≡◌, ℕ, ◌||◌, if◌then◌else◌, Option, Some, None, Result, Ok, Err, ⊤}
use Rattle.dp_command.specs.declared.command.LookRequest.{LookRequest}
use Rattle.dp_command.specs.declared.command.LookRequest.TheVariants as request
use Rattle.dp_features.specs.Features.{Features}
use Rattle.dp_packet.specs.declared.error_codes.ErrorCode.{ErrorCode}
use Rattle.dp_packet.specs.declared.error_codes.ErrorCode.TheVariants.{InvalidOptions}
use Rattle.dp_packet.specs.declared.packet.Response.{Response}
use Rattle.dp_packet.specs.Parts.{Text}
use Rattle.dp_state.specs.declared.state.State.{State}
use Rattle.dp_tree.specs.declared.bundle.Bundle.{Bundle}
use Rattle.dp_view.specs.declared.errors.ViewError.{ViewError}
use Rattle.dp_view.specs.declared.errors.ViewError.TheVariants.{Code, Memory}
use Rattle.dp_view.specs.Named.{named_path}
use Rattle.dp_view.specs.Stacks.{stack_at}
pub use Rattle.dp_view_limits.specs.Sent.{IsSent}
use Rattle.dp_view_commands.specs.Views.{code_in, is_zero, view_refusal}

abbrev pub Answers : Result Response ViewError → Result Response ErrorCode → Type 0
Answers (Ok made) asked = asked ≡ Ok made
Answers (Err (Code code)) asked = asked ≡ Err code
Answers (Err Memory) asked = ⊤

-- The code of a refusal that is reported whatever memory there is: each one, but that there is
-- nothing at a name that is one, that this is too long, and that there is no such file.
abbrev pub refusal_at_once : Bundle → ℕ → Features → State → Text → Text → LookRequest
    → Option ErrorCode
refusal_at_once bundle here features s command id (request.StackGet level) =
    code_in (stack_at bundle s level)
refusal_at_once bundle here features s command id (request.ContextGet level context) =
    view_refusal bundle here features s command id (request.ContextGet level context)
refusal_at_once bundle here features s command id (request.PropertyGet place page most) =
    code_in (named_path s place.level place.context place.name)
refusal_at_once bundle here features s command id (request.PropertyValue place most) =
    code_in (named_path s place.level place.context place.name)
refusal_at_once bundle here features s command id (request.Source range) =
    if is_zero range.first || is_zero range.last then Some InvalidOptions else None
refusal_at_once bundle here features s command id other = None
