-- The two lanes of a session: packets go up, from the engine to the IDE, and commands down. A lane
-- passes whole frames alone.
use Rattle.std.specs.Prelude.{ℕ, ◌+◌, ◌==◌, nat_le, Bool, true, not, ◌&&◌}
use Rattle.std.specs.Prelude.{List, [], ◌∷◌, length, drop}
use Rattle.std.specs.Str.Parse.{digits_value}
use Rattle.dp_bytes.specs.IntText.{is_positive}
use Rattle.dp_wire.specs.Frames.{up_to_nul}
use Rattle.dp_wire.specs.Frames.{command_frame, commands_in, rest_of, command_limit}
use Rattle.dp_wire.specs.Frames.{packet_frame, packets_in, rest_of_packets}
use Rattle.dp_wire.specs.Frames.{packet_limit}
use Rattle.dp_lanes.specs.declared.lane.LaneKind.{LaneKind}
use Rattle.dp_lanes.specs.declared.lane.LaneKind.TheVariants.{Up, Down}

-- ---- frames of each kind

abbrev pub frame : LaneKind → List ℕ → List ℕ
frame Up = packet_frame
frame Down = command_frame

-- the whole texts at the front of the bytes, and what follows their frames
abbrev pub texts_in : LaneKind → List ℕ → List (List ℕ)
texts_in Up bytes = packets_in bytes
texts_in Down bytes = commands_in bytes

abbrev pub rest_in : LaneKind → List ℕ → List ℕ
rest_in Up bytes = rest_of_packets bytes
rest_in Down bytes = rest_of bytes

-- ---- bytes with which no frame begins, however they go on

abbrev pub ends_in_nul : List ℕ → Bool
ends_in_nul [] = true
ends_in_nul (byte ∷ bytes) = byte == 0

-- nothing yet; or the digits of a length within the limit and, as far as they have come, a NUL, so
-- many bytes, and a NUL
abbrev pub may_be_packet : List ℕ → Bool
may_be_packet [] = true
may_be_packet (byte ∷ bytes) =
    let digits = up_to_nul (byte ∷ bytes) in
    is_positive digits && nat_le (digits_value 10 digits) packet_limit
    && ends_in_nul (drop (length digits + 1 + digits_value 10 digits) (byte ∷ bytes))

abbrev pub may_be_command : List ℕ → Bool
may_be_command bytes = nat_le (length (up_to_nul bytes)) command_limit

-- behind the whole frames of the bytes no frame begins
unfoldable pub is_bad : LaneKind → List ℕ → Bool
is_bad Up bytes = not (may_be_packet (rest_of_packets bytes))
is_bad Down bytes = not (may_be_command (rest_of bytes))
