-- What a session sends: its first packet, responses, and the program's output. DBGp 1.0, "Init
-- Packet", "Response Format", "stdout, stderr". Which attributes stand in a response and in what
-- order is this engine's own.
use Rattle.std.specs.Prelude.{ℕ, Bool, zero, suc, List, [], ◌∷◌, ◌+◌, ◌-◌, ◌/◌, length, take, drop, map, Option, Some, None, codes, slice_get}
use Rattle.std.specs.Option.{option_map_or}
use Rattle.dp_tree.specs.declared.bundle.Bundle.{Bundle}
use Rattle.dp_packet.specs.declared.error_codes.ErrorCode.{ErrorCode}
use Rattle.dp_packet.specs.declared.packet.Body.{Body}
use Rattle.dp_packet.specs.declared.packet.Body.TheVariants as body
use Rattle.dp_packet.specs.declared.packet.Packet.TheVariants as packet
use Rattle.dp_packet.specs.declared.packet.Notify.{Notify}
use Rattle.dp_packet.specs.declared.packet.Response.{Response}
pub use Rattle.dp_packet.specs.Packets.{response}
use Rattle.dp_packet.specs.Messages.{number}
use Rattle.dp_packet.specs.Parts.{Text, Attributes, flag}
use Rattle.dp_packet.specs.Text.{text}
use Rattle.dp_packet.specs.Uris.{file_uri}

-- ---- the first packet

-- the name of the main file
abbrev pub main_name : Bundle → Text
main_name bundle = option_map_or (λ file. file.name) (slice_get bundle.files 0) []

-- the packet that opens a session for this key
unfoldable pub init_text : Bundle → Text → Text
init_text bundle key =
    text (packet.Init (record { idekey = key; fileuri = file_uri (main_name bundle) }))

-- ---- responses

abbrev pub status_attributes : Text → Text → Attributes
status_attributes status reason = (codes "status", status) ∷ (codes "reason", reason) ∷ []

-- a response that tells a status and its reason
abbrev pub status_response : Text → Text → Text → Text → Response
status_response command id status reason =
    response command id (status_attributes status reason) body.Nothing

abbrev pub value_body : Option Text → Body
value_body None = body.Nothing
value_body (Some value) = body.Plain value

-- a feature, whether it is supported, and its value where it has one
abbrev pub feature_response : Text → Text → Text → Text → Option Text → Response
feature_response command id feature supported value =
    response command id
    ((codes "feature_name", feature) ∷ (codes "supported", supported) ∷ []) (value_body value)

-- a feature that was set
abbrev pub set_response : Text → Text → Text → Response
set_response command id feature =
    response command id
    ((codes "feature", feature) ∷ (codes "success", codes "1") ∷ []) body.Nothing

-- a command that succeeds or does not
abbrev pub success_response : Text → Text → Bool → Response
success_response command id success =
    response command id ((codes "success", flag success) ∷ []) body.Nothing

-- an error with this code
abbrev pub fault_response : Text → Text → ErrorCode → Response
fault_response command id code = response command id [] (body.Fault (number code))

-- the number of the error that a response tells, if it tells one
abbrev pub fault_in : Body → Option ℕ
fault_in (body.Fault code) = Some code
fault_in what = None

unfoldable pub response_text : Response → Text
response_text r = text (packet.Response r)

abbrev pub notice_text : Notify → Text
notice_text n = text (packet.Notify n)

-- ---- output

-- so many bytes stand in one packet
abbrev pub stream_size : ℕ
stream_size = 4096

-- the first pieces of a text, each of that size but the last
abbrev pub first_pieces : ℕ → Text → List Text
first_pieces zero bytes = []
first_pieces (suc count) bytes =
    take stream_size bytes ∷ first_pieces count (drop stream_size bytes)

-- a text in pieces, none of them empty
abbrev pub pieces : Text → List Text
pieces bytes = first_pieces ((length bytes + stream_size - 1) / stream_size) bytes

-- the packets in which output goes to the IDE
abbrev pub streams : Text → List Text
streams bytes = map (λ piece. text (packet.Stream piece)) (pieces bytes)
