-- Where in a stream a packet stands, and where none does.
use Rattle.std.specs.Prelude.{◌≡◌, ℕ, min, List, length, flat_map}
use Rattle.dp_wire.specs.declared.errors.WireError.{WireError}
use Rattle.dp_wire.specs.declared.errors.WireError.TheVariants.{BadLength, NoNul, TooLong}
use Rattle.dp_wire.specs.Frames.{packet_frame, BeginsNoPacket}
use Rattle.dp_wire.specs.Received.{Received, IsCause, last_place}

-- the place in the stream behind the frames of these texts; 2^64 - 1 stands for all that pass it
abbrev pub place_behind : List (List ℕ) → ℕ
place_behind texts = min (length (flat_map packet_frame texts)) last_place

-- the place of a refusal: its byte, or where the length passes the limit the first byte of the
-- frame
abbrev pub refused_at : WireError → ℕ → ℕ
refused_at (BadLength offset) start = offset
refused_at (NoNul offset) start = offset
refused_at (TooLong number) start = start

-- no packet begins the bytes held, for a reason whose place in the stream this is
pub record IsRefusedAt (received : Received) (offset : ℕ) : Type 0 where
  pub none : BeginsNoPacket received.held
  pub why : WireError
  pub is_why : IsCause received why
  pub place : offset ≡ refused_at why received.dropped
