-- The turns of a lane's run: whole frames are put, and a piece is read.
use Rattle.std.specs.Prelude.{◌≡◌, ℕ, Bool, true, false, List, [], ◌++◌, Result, Ok, Err, ⊤}
use Rattle.std.specs.declared.option.Option.{Option}
use Rattle.std.specs.Io.KnownBytes.{IsAtEnd}
use mathlib.Core.List.{IsPrefix}
use Rattle.dp_lanes.specs.declared.lane.Lane.{Lane}
use Rattle.dp_lanes.specs.declared.lane.LaneKind.{LaneKind}
use Rattle.dp_lanes.specs.Passed.{HasPassed}
use Rattle.dp_lanes.specs.Places.{IsBadIn, received_in}
use Rattle.dp_relay.specs.declared.ends.LaneEnd.{LaneEnd}
use Rattle.dp_relay.specs.declared.ends.LaneEnd.TheVariants.{End, ReadFault, WriteFault, BadFrame, Memory}
use Rattle.dp_relay.specs.Ends.{Ends, Gives, Takes, Gave, Took, Failed, SourceHeld, SinkHeld}
use Rattle.dp_relay.specs.LaneRuns.{whole_frames}

-- ---- frames that are put

abbrev pub Stops : LaneKind → Lane → List ℕ → List ℕ → Result ⊤ LaneEnd → Type 0
Stops kind lane stream written (Ok done) = HasPassed kind lane stream written
Stops kind lane stream written (Err End) = ⊥
Stops kind lane stream written (Err ReadFault) = ⊥
Stops kind lane stream written (Err WriteFault) = IsPrefix written (whole_frames kind stream)
Stops kind lane stream written (Err (BadFrame offset)) =
    (written ≡ whole_frames kind stream) × IsBadIn kind stream offset
Stops kind lane stream written (Err Memory) = ⊥

abbrev pub PutFails : Result ⊤ LaneEnd → ℕ → ℕ → Type 0
PutFails (Ok done) a b = b ≡ a
PutFails (Err End) a b = b ≡ a
PutFails (Err ReadFault) a b = b ≡ a
PutFails (Err WriteFault) a b = Failed a b
PutFails (Err (BadFrame offset)) a b = b ≡ a
PutFails (Err Memory) a b = b ≡ a

-- whole frames were put, from the lane as it was to the lane as it is
pub record Putting (old new : Lane) (before after : Option (List ℕ)) : Type 0 where
  pub written : List ℕ
  pub takes : Takes before after written
  pub passes : (kind : LaneKind) (stream put : List ℕ) → HasPassed kind old stream put
      → HasPassed kind new stream (put ++ written)

pub record Put (old new : Lane) (before after : Option (List ℕ)) (a b : ℕ)
    (result : Result ⊤ LaneEnd) : Type 0 where
  pub written : List ℕ
  pub takes : Takes before after written
  pub stops : (kind : LaneKind) (stream put : List ℕ) → HasPassed kind old stream put
      → Stops kind new stream (put ++ written) result
  pub fails : PutFails result a b

-- ---- a piece that is read

-- the piece is held behind what was held, or none was read
abbrev pub Behind : Lane → Lane → List ℕ → Result Bool LaneEnd → Type 0
Behind old new piece (Ok true) =
    ((received_in new).held ≡ (received_in old).held ++ piece)
    × ((received_in new).dropped ≡ (received_in old).dropped)
Behind old new piece (Ok false) = (piece ≡ []) × (received_in new ≡ received_in old)
Behind old new piece (Err End) = ⊥
Behind old new piece (Err ReadFault) = (piece ≡ []) × (received_in new ≡ received_in old)
Behind old new piece (Err WriteFault) = ⊥
Behind old new piece (Err (BadFrame offset)) = ⊥
Behind old new piece (Err Memory) = ⊤

abbrev pub ReadFails : Result Bool LaneEnd → ℕ → ℕ → Type 0
ReadFails (Ok more) a b = b ≡ a
ReadFails (Err End) a b = b ≡ a
ReadFails (Err ReadFault) a b = Failed a b
ReadFails (Err WriteFault) a b = b ≡ a
ReadFails (Err (BadFrame offset)) a b = b ≡ a
ReadFails (Err Memory) a b = b ≡ a

abbrev pub AtEnd : Result Bool LaneEnd → Option (List ℕ) → Type 0
AtEnd (Ok true) left = ⊤
AtEnd (Ok false) left = IsAtEnd left
AtEnd (Err end) left = ⊤

pub record Fed (old new : Lane) (ahead rest before after : Option (List ℕ)) (a b : ℕ)
    (result : Result Bool LaneEnd) : Type 0 where
  pub piece : List ℕ
  pub gives : Gives ahead rest before after piece
  pub behind : Behind old new piece result
  pub at_end : AtEnd result rest
  pub fails : ReadFails result a b

-- ---- a run that goes on

-- what was read and written so far; the lane has passed it, and nothing failed
pub record Going (kind : LaneKind) (held : List ℕ) (a b : Ends) (lane : Lane) : Type 0 where
  pub read : List ℕ
  pub written : List ℕ
  pub gave : Gave a b read
  pub took : Took a b written
  pub passed : HasPassed kind lane (held ++ read) written
  pub source : SourceHeld a b
  pub sink : SinkHeld a b
