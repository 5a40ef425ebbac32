-- What a lane holds, what it hands out, and where a stream is bad.
use Rattle.std.specs.Prelude.{◌≡◌, ℕ, ◌+◌, ◌<◌, ◌≤◌, min, true, false, List, ◌∷◌, ◌++◌, length, drop}
use Rattle.std.specs.Prelude.{flat_map, slice_range, Option, Some, None}
use Rattle.dp_wire.specs.declared.errors.WireError.{WireError}
use Rattle.dp_wire.specs.declared.errors.WireError.TheVariants.{TooLong}
use Rattle.dp_wire.specs.Frames.{Begins, IsPartial, BeginsNoFrame, IsCommand, IsPacketText, command_limit}
use Rattle.dp_wire.specs.Frames.{packet_limit}
use Rattle.dp_wire.specs.Places.{IsRefusedAt}
use Rattle.dp_wire.specs.Received.{Received, IsCause, last_place}
use Rattle.dp_lanes.specs.declared.lane.Lane.{Lane}
use Rattle.dp_lanes.specs.declared.lane.Lane.TheVariants as lane
use Rattle.dp_lanes.specs.declared.lane.LaneKind.{LaneKind}
use Rattle.dp_lanes.specs.declared.lane.LaneKind.TheVariants.{Up, Down}
use Rattle.dp_lanes.specs.Lanes.{frame, texts_in, rest_in, is_bad}

-- ---- frames at the front of what is held

abbrev pub IsText : LaneKind → List ℕ → Type 0
IsText Up = IsPacketText
IsText Down = IsCommand

abbrev pub BeginsWith : LaneKind → List ℕ → List ℕ → List ℕ → Type 0
BeginsWith kind = Begins (IsText kind) (frame kind)

abbrev pub IsPart : LaneKind → List ℕ → Type 0
IsPart kind = IsPartial (IsText kind) (frame kind)

abbrev pub BeginsNone : LaneKind → List ℕ → Type 0
BeginsNone kind = BeginsNoFrame (IsText kind) (frame kind)

-- the range of the first text among the bytes held
pub record IsFront (kind : LaneKind) (held : List ℕ) (start end : ℕ) : Type 0 where
  pub before : start ≤ end
  pub within : end < length held
  pub whole : BeginsWith kind held (slice_range held start end) (drop (end + 1) held)
  pub framed : end + 1 ≡ length (frame kind (slice_range held start end))
  pub stays : (more : List ℕ) → texts_in kind (held ++ more)
      ≡ slice_range held start end ∷ texts_in kind (drop (end + 1) held ++ more)

-- which way a lane goes, and what it has received
abbrev pub kind_of : Lane → LaneKind
kind_of (lane.Up received) = Up
kind_of (lane.Down received) = Down

abbrev pub received_in : Lane → Received
received_in (lane.Up received) = received
received_in (lane.Down received) = received

-- the most bytes that are held where more of a frame has to come
abbrev pub most_held : LaneKind → ℕ
most_held Up = packet_limit + 9
most_held Down = command_limit

-- why no frame begins what is held; a command that is too long is the one reason of its lane
abbrev pub Causes : LaneKind → Received → WireError → Type 0
Causes Up received why = IsCause received why
Causes Down received why = why ≡ TooLong (command_limit + 1)

-- ---- where no frame begins

-- the place in the stream behind the whole frames; 2^64 - 1 stands for all that pass it
abbrev pub start_of_rest : LaneKind → List ℕ → ℕ
start_of_rest kind bytes = min (length (flat_map (frame kind) (texts_in kind bytes))) last_place

-- what is left of these bytes behind their whole frames
abbrev pub left_of : LaneKind → List ℕ → Received
left_of kind bytes = record { held = rest_in kind bytes; dropped = start_of_rest kind bytes }

-- the rest of these bytes is bad, and the place of that in the stream
abbrev pub IsBadAt : LaneKind → List ℕ → ℕ → Type 0
IsBadAt Up bytes offset = IsRefusedAt (left_of Up bytes) offset
IsBadAt Down bytes offset =
    BeginsNone Down (rest_in Down bytes) × (offset ≡ start_of_rest Down bytes)

-- the stream is bad, and here
pub record IsBadIn (kind : LaneKind) (bytes : List ℕ) (offset : ℕ) : Type 0 where
  pub bad : is_bad kind bytes ≡ true
  pub place : IsBadAt kind bytes offset

-- where the stream is bad, the place of that
abbrev pub IsBadPlace : LaneKind → List ℕ → Option ℕ → Type 0
IsBadPlace kind bytes None = is_bad kind bytes ≡ false
IsBadPlace kind bytes (Some offset) = IsBadIn kind bytes offset

-- ---- a lane and its stream

-- the most bytes that a lane is fed at once
abbrev pub lane_piece_limit : ℕ
lane_piece_limit = 65536

-- the lane goes this way, and holds what is left of these bytes
pub record Follows (kind : LaneKind) (lane : Lane) (bytes : List ℕ) : Type 0 where
  pub way : kind_of lane ≡ kind
  pub rest : received_in lane ≡ left_of kind bytes

-- the frames that these bytes complete behind those
abbrev pub handed_of : LaneKind → List ℕ → List ℕ → List ℕ
handed_of kind bytes more =
    flat_map (frame kind) (drop (length (texts_in kind bytes)) (texts_in kind (bytes ++ more)))

-- the bytes were taken in, and the frames that they complete were handed out
pub record Carries (kind : LaneKind) (lane : Lane) (bytes more out : List ℕ) : Type 0 where
  pub follows : Follows kind lane (bytes ++ more)
  pub put : out ≡ handed_of kind bytes more
