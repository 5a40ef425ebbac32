-- What the commands answer that look at a program: its stack, its variables and its text. DBGp 1.0,
-- "stack_depth", "stack_get", "context_names", "context_get", "property_get", "property_value",
-- "source". Which attributes stand in a response and in what order, the order of the codes, and the
-- limit are this engine's own.
use Rattle.std.specs.Prelude.{ℕ, ◌==◌, ◌||◌, nat_le, Bool, false, if◌then◌else◌, [], ◌∷◌, length, codes, decimal, Option, Some, None, ok_or, unwrap_or, option_and_then, option_map, slice_get, Result, Ok, Err}
use Rattle.std.specs.Option.{option_map_or}
use Rattle.dp_file_uris.specs.Files.{requested_file}
use Rattle.dp_command.specs.declared.command.PropertyPlace.{PropertyPlace}
use Rattle.dp_command.specs.declared.command.LookRequest.{LookRequest}
use Rattle.dp_command.specs.declared.command.LookRequest.TheVariants as request
use Rattle.dp_command.specs.declared.command.SourceRange.{SourceRange}
use Rattle.dp_features.specs.Features.{Features}
use Rattle.dp_packet.specs.declared.error_codes.ErrorCode.{ErrorCode}
use Rattle.dp_packet.specs.declared.error_codes.ErrorCode.TheVariants.{InvalidOptions, CannotOpenFile, CannotGetProperty}
use Rattle.dp_packet.specs.declared.packet.Body.{Body}
use Rattle.dp_packet.specs.declared.packet.Body.TheVariants as body
use Rattle.dp_packet.specs.declared.packet.Packet.TheVariants as packet
use Rattle.dp_packet.specs.declared.packet.Response.{Response}
use Rattle.dp_packet.specs.Parts.{Attributes, Text, base64}
use Rattle.dp_packet.specs.Text.{text}
use Rattle.dp_state.specs.declared.state.State.{State}
use Rattle.dp_tree.specs.declared.bundle.Bundle.{Bundle}
use Rattle.dp_tree.specs.declared.bundle.BundleFile.{BundleFile}
use Rattle.dp_view.specs.declared.paging.Paging.{Paging}
use Rattle.dp_view.specs.Answers.{and_then}
pub use Rattle.dp_packet.specs.Messages.{code_in}
use Rattle.dp_view.specs.Named.{named_property, named_value}
use Rattle.dp_view.specs.Places.{contexts}
use Rattle.dp_view.specs.Properties.{context_at}
use Rattle.dp_view.specs.Source.{source_lines}
use Rattle.dp_view.specs.Stacks.{stack_at}
use Rattle.dp_wire.specs.Frames.{packet_limit}

-- what a response has of its own: attributes and a body
abbrev pub Part : Type 0
Part = Attributes × Body

-- how much is shown of values: as the features say, but for the bytes of a text where a command
-- says how many
abbrev pub paging : Features → Option ℕ → ℕ → Paging
paging features most page = record {
  children = features.max_children;
  bytes = unwrap_or most features.max_data;
  depth = features.max_depth;
  page = page;
}

-- ---- the stack and the contexts

abbrev pub depth_part : State → Part
depth_part s = ((codes "depth", decimal (length s.frames)) ∷ [], body.Nothing)

-- the whole stack, or one level
abbrev pub stack_part : Bundle → State → Option ℕ → Result Part ErrorCode
stack_part bundle s level =
    and_then (λ lines. Ok ([], body.Stacks lines)) (stack_at bundle s level)

abbrev pub context_attributes : ℕ → Attributes
context_attributes id = (codes "context", decimal id) ∷ []

abbrev pub context_part : Features → State → ℕ → ℕ → Result Part ErrorCode
context_part features s level id =
    and_then (λ shown. Ok (context_attributes id, body.Properties shown))
    (context_at s level id (paging features None 0))

-- ---- properties

-- a property with what is nested in it
abbrev pub property_part : Features → State → PropertyPlace → ℕ → Option ℕ → Result Part ErrorCode
property_part features s place page most =
    and_then (λ shown. Ok ([], body.Properties (shown ∷ [])))
    (named_property s place.level place.context place.name (paging features most page))

-- a value with its type
abbrev pub value_part : State → PropertyPlace → Option ℕ → Result Part ErrorCode
value_part s place most =
    and_then (λ shown. Ok (shown.attributes, body.Plain shown.text))
    (named_value s place.level place.context place.name most)

-- ---- the text of a file

-- the file that is asked for: the one of the moment where none is given
abbrev pub source_file : Bundle → ℕ → Option Text → Option BundleFile
source_file bundle here None = slice_get bundle.files here
source_file bundle here (Some value) =
    option_and_then (slice_get bundle.files) (requested_file bundle value)

abbrev pub is_zero : Option ℕ → Bool
is_zero line = option_map_or (λ n. n == 0) line false

abbrev pub source_attributes : Attributes
source_attributes = (codes "success", codes "1") ∷ (codes "encoding", codes "base64") ∷ []

-- the lines asked for of a file's text, where there is the file
abbrev pub lines_part : SourceRange → Option Text → Result Part ErrorCode
lines_part range file =
    and_then
    (λ t. Ok (source_attributes, body.Plain (base64 (source_lines range.first range.last t))))
    (ok_or file CannotOpenFile)

-- the same, where no line is 0, of the file that is asked for
abbrev pub source_part : Bundle → ℕ → SourceRange → Result Part ErrorCode
source_part bundle here range =
    if is_zero range.first || is_zero range.last then Err InvalidOptions
    else lines_part range (option_map (λ f. f.text) (source_file bundle here range.file))

-- ---- responses

-- what a command shows, or the code of its refusal, where its text has no limit
abbrev pub part_of : Bundle → ℕ → Features → State → LookRequest → Result Part ErrorCode
part_of bundle here features s request.StackDepth = Ok (depth_part s)
part_of bundle here features s (request.StackGet level) = stack_part bundle s level
part_of bundle here features s request.ContextNames = Ok ([], body.Contexts contexts)
part_of bundle here features s (request.ContextGet level id) = context_part features s level id
part_of bundle here features s (request.PropertyGet place page most) =
    property_part features s place page most
part_of bundle here features s (request.PropertyValue place most) = value_part s place most
part_of bundle here features s (request.Source range) = source_part bundle here range

abbrev pub response_with : Text → Text → Part → Response
response_with command id part =
    record { command = command; id = id; attributes = part.0; body = part.1 }

abbrev pub is_short : Response → Bool
is_short r = nat_le (length (text (packet.Response r))) packet_limit

-- a response, or a refusal where its text passes the limit
abbrev pub within_limit : Response → Result Response ErrorCode
within_limit r = if is_short r then Ok r else Err CannotGetProperty

-- the same of what a command shows
abbrev pub answered : Text → Text → Result Part ErrorCode → Result Response ErrorCode
answered command id shown =
    and_then (λ part. within_limit (response_with command id part)) shown

-- The response to a command of this name and transaction id, or the code of its refusal. `here` is
-- the number of the file of the moment, 0 before the first.
unfoldable pub view_response : Bundle → ℕ → Features → State → Text → Text → LookRequest
    → Result Response ErrorCode
view_response bundle here features s command id asked =
    answered command id (part_of bundle here features s asked)

-- the code of its refusal
unfoldable pub view_refusal : Bundle → ℕ → Features → State → Text → Text → LookRequest
    → Option ErrorCode
view_refusal bundle here features s command id asked =
    code_in (view_response bundle here features s command id asked)
