-- What becomes of the writes that are kept where a command asks for one.
use Rattle.std.specs.Prelude.{◌≡◌, ℕ, List, [], ◌∷◌, ◌++◌, Result, Ok, Err}
use Rattle.dp_command.specs.declared.command.WriteRequest.{WriteRequest}
use Rattle.dp_features.specs.Features.{Features}
use Rattle.dp_meaning.specs.declared.writes.NumberedWrite.{NumberedWrite}
use Rattle.dp_meaning.specs.declared.writes.Write.{Write}
use Rattle.dp_meaning.specs.Writes.{evaluation_setting, one_write}
use Rattle.dp_packet.specs.declared.packet.Response.{Response}
use Rattle.dp_packet.specs.Parts.{Text}
use Rattle.dp_state.specs.declared.state.State.{State}
use Rattle.dp_tree.specs.declared.bundle.Bundle.{Bundle}
use Rattle.dp_view.specs.declared.errors.ViewError.{ViewError}
use Rattle.dp_view.specs.declared.errors.ViewError.TheVariants.{Code, Memory}
use Rattle.dp_write_commands.specs.Requests.{requested_write}
use Rattle.dp_write_commands.specs.Responses.{write_response}

-- a write at a moment, behind others
abbrev pub with_one : ℕ → Write → List NumberedWrite → List NumberedWrite
with_one moment w writes = writes ++ (record { moment = moment; write = w }) ∷ []

-- the write was made and is kept, and this is its response
pub record IsKeptWrite (bundle : Bundle) (features : Features) (before after : State)
    (writes kept : List NumberedWrite) (moment : ℕ) (command id : Text) (asked : WriteRequest)
    (response : Response) : Type 0 where
  pub write : Write
  pub asks : requested_write before asked ≡ Ok write
  pub answered : write_response bundle features before command id asked ≡ Ok response
  pub state : after ≡ one_write (evaluation_setting bundle) write before
  pub list : kept ≡ with_one moment write writes

-- else nothing has changed
abbrev pub Accepts : Bundle → Features → State → State → List NumberedWrite → List NumberedWrite → ℕ
    → Text → Text → WriteRequest → Result Response ViewError → Type 0
Accepts bundle features before after writes kept moment command id asked (Ok response) =
    IsKeptWrite bundle features before after writes kept moment command id asked response
Accepts bundle features before after writes kept moment command id asked (Err (Code code)) =
    (write_response bundle features before command id asked ≡ Err code)
    × (after ≡ before)
    × (kept ≡ writes)
Accepts bundle features before after writes kept moment command id asked (Err Memory) =
    (after ≡ before) × (kept ≡ writes)
