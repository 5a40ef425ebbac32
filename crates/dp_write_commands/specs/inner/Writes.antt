-- Writes as the code makes them.
use Rattle.std.specs.Prelude.{◌≡◌, ℕ, List, [], length, Some, None, Result, Ok, Err, ⊤}
use Rattle.dp_features.specs.Features.{Features}
use Rattle.dp_meaning.specs.declared.writes.Write.{Write}
use Rattle.dp_meaning.specs.declared.writes.WriteFault.{WriteFault}
use Rattle.dp_meaning.specs.declared.writes.WriteFault.TheVariants.{NoFrame, NoPlace}
use Rattle.dp_meaning.specs.Writes.{evaluation_setting, one_write}
use Rattle.dp_packet.specs.declared.error_codes.ErrorCode.{ErrorCode}
use Rattle.dp_packet.specs.declared.error_codes.ErrorCode.TheVariants.{ErrorEvaluatingCode, CannotGetProperty, StackDepthInvalid}
use Rattle.dp_packet.specs.declared.packet.Body.TheVariants as body
use Rattle.dp_packet.specs.declared.packet.Packet.TheVariants as packet
use Rattle.dp_packet.specs.declared.packet.Response.{Response}
use Rattle.dp_packet.specs.Parts.{Text}
use Rattle.dp_packet.specs.Text.{text}
use Rattle.dp_parse.specs.declared.errors.ParseError.{ParseError}
use Rattle.dp_parse.specs.declared.errors.ParseError.TheVariants as parse_error
use Rattle.dp_state.specs.declared.state.State.{State}
use Rattle.dp_tree.specs.declared.bundle.Bundle.{Bundle}
use Rattle.dp_tree.specs.declared.tree.Expression.{Expression}
use Rattle.dp_value.specs.declared.value.Value.{Value}
use Rattle.dp_value.specs.declared.value.Value.TheVariants as variant
use Rattle.dp_view.specs.declared.errors.ViewError.{ViewError}
use Rattle.dp_view.specs.declared.errors.ViewError.TheVariants.{Code, Memory}
use Rattle.dp_write_commands.specs.declared.requests.Given.{Given}
use Rattle.dp_write_commands.specs.declared.requests.Given.TheVariants as given
use Rattle.dp_write_commands.specs.declared.commands.Written.{Written}
use Rattle.dp_write_commands.specs.Requests.{tree_of}
use Rattle.dp_write_commands.specs.Responses.{responding, success}

-- the value that bytes give
abbrev pub value_of_given : List ℕ → Given → Value
value_of_given bytes given.Text = variant.Text bytes
value_of_given bytes (given.Other value) = value

-- how many bytes a response has without the property in it
unfoldable pub around : Text → Text → ℕ
around command id =
    length (text (packet.Response (success command id (body.Properties []))))

-- the tree of a text, or why there is none
abbrev pub IsTree : List ℕ → Result Expression ViewError → Type 0
IsTree text (Ok e) = tree_of text ≡ Some e
IsTree text (Err (Code code)) = (code ≡ ErrorEvaluatingCode) × (tree_of text ≡ None)
IsTree text (Err Memory) = Unit {0}

-- what a write of a place leaves, or the code of a refusal
abbrev pub coded : Result State WriteFault → Result State ErrorCode
coded (Ok s) = Ok s
coded (Err NoFrame) = Err StackDepthInvalid
coded (Err NoPlace) = Err CannotGetProperty

-- a place was given a value; else nothing has changed
abbrev pub Puts : Result State WriteFault → State → State → Result ⊤ ViewError → Type 0
Puts asked before after (Ok done) = coded asked ≡ Ok after
Puts asked before after (Err (Code code)) = (coded asked ≡ Err code) × (after ≡ before)
Puts asked before after (Err Memory) = after ≡ before

-- 206 where a text is no expression, unless memory runs out
abbrev pub error_of : ParseError → ViewError
error_of parse_error.Memory = Memory
error_of why = Code ErrorEvaluatingCode

-- a response where what it tells was done
abbrev pub with_response : Response → Result ⊤ ViewError → Result Response ViewError
with_response r (Ok done) = Ok r
with_response r (Err why) = Err why

-- the state after an evaluation, if there is a response to it
abbrev pub kept_by : Result Response ViewError → State → State → State
kept_by (Ok r) after before = after
kept_by (Err why) after before = before

-- a response with the write that it tells
abbrev pub with_write : Write → Result Response ViewError → Result Written ViewError
with_write w (Ok r) = Ok (record { response = r; write = w })
with_write w (Err why) = Err why

-- a write was made, and this is its response; else nothing has changed
abbrev pub Makes : Bundle → Features → State → State → Text → Text → Write
    → Result Response ViewError → Type 0
Makes bundle features before after command id w (Ok r) =
    (responding bundle features before command id w ≡ Ok r)
    × (after ≡ one_write (evaluation_setting bundle) w before)
Makes bundle features before after command id w (Err (Code code)) =
    (responding bundle features before command id w ≡ Err code) × (after ≡ before)
Makes bundle features before after command id w (Err Memory) = after ≡ before

-- what is asked for, or the code of a refusal, or out of memory
abbrev pub Finds : {A : Type 0} → Result A ViewError → Result A ErrorCode → Type 0
Finds (Ok a) asked = asked ≡ Ok a
Finds (Err (Code code)) asked = asked ≡ Err code
Finds (Err Memory) asked = Unit {0}
