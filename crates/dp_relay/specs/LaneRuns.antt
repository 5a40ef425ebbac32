-- What a lane's run leaves, by how it ended.
use Rattle.std.specs.Prelude.{◌≡◌, ℕ, false, List, ◌++◌, flat_map}
use Rattle.std.specs.Io.KnownBytes.{IsAtEnd}
use mathlib.Core.List.{IsPrefix}
use Rattle.dp_lanes.specs.declared.lane.LaneKind.{LaneKind}
use Rattle.dp_lanes.specs.Lanes.{frame, texts_in, is_bad}
use Rattle.dp_lanes.specs.Places.{IsBadIn}
use Rattle.dp_relay.specs.declared.ends.LaneEnd.{LaneEnd}
use Rattle.dp_relay.specs.declared.ends.LaneEnd.TheVariants.{End, ReadFault, WriteFault, BadFrame, Memory}
use Rattle.dp_relay.specs.Ends.{Ends, Gave, Took, SourceHeld, SinkHeld, SourceFailed, SinkFailed}

-- the frames of all whole texts at the front of a stream
abbrev pub whole_frames : LaneKind → List ℕ → List ℕ
whole_frames kind stream = flat_map (frame kind) (texts_in kind stream)

-- What was written of the stream that came in the lane: its whole frames, where it came to an end
-- or failed to come, or where it is bad; and a front of them, where they could not be put or held.
abbrev pub Passed : LaneKind → List ℕ → List ℕ → LaneEnd → Type 0
Passed kind stream written End =
    (written ≡ whole_frames kind stream) × (is_bad kind stream ≡ false)
Passed kind stream written ReadFault =
    (written ≡ whole_frames kind stream) × (is_bad kind stream ≡ false)
Passed kind stream written (BadFrame offset) =
    (written ≡ whole_frames kind stream) × IsBadIn kind stream offset
Passed kind stream written WriteFault = IsPrefix written (whole_frames kind stream)
Passed kind stream written Memory = IsPrefix written (whole_frames kind stream)

-- the lane's source failed, or its sink, or neither; at the end nothing is left in the source
abbrev pub Ended : Ends → Ends → LaneEnd → Type 0
Ended a b End = SourceHeld a b × SinkHeld a b × IsAtEnd b.left
Ended a b ReadFault = SourceFailed a b × SinkHeld a b
Ended a b WriteFault = SourceHeld a b × SinkFailed a b
Ended a b (BadFrame offset) = SourceHeld a b × SinkHeld a b
Ended a b Memory = SourceHeld a b × SinkHeld a b

-- a lane that held these bytes ran between a source and a sink
pub record LaneRan (kind : LaneKind) (held : List ℕ) (a b : Ends) (end : LaneEnd) : Type 0 where
  pub read : List ℕ
  pub written : List ℕ
  pub gave : Gave a b read
  pub took : Took a b written
  pub passed : Passed kind (held ++ read) written end
  pub ended : Ended a b end
