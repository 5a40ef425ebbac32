-- A lane over its whole stream: what was read and what was written, where it is fed piece by piece
-- and emptied frame by frame; and what is handed out of all pieces.
use Rattle.std.specs.Prelude.{◌≡◌, ℕ, min, List, [], ◌∷◌, ◌++◌, length, flat_map}
use Rattle.std.specs.List.{AllByRecursion}
use Rattle.dp_wire.specs.Received.{last_place}
use Rattle.dp_lanes.specs.declared.lane.Lane.{Lane}
use Rattle.dp_lanes.specs.declared.lane.LaneKind.{LaneKind}
use Rattle.dp_lanes.specs.Lanes.{frame}
use Rattle.dp_lanes.specs.Places.{IsText, kind_of, received_in, handed_of}

-- The lane goes this way. What was read is the frames of these texts and what it holds; these
-- frames were written, and no more.
pub record HasPassed (kind : LaneKind) (lane : Lane) (read written : List ℕ) : Type 0 where
  pub way : kind_of lane ≡ kind
  pub texts : List (List ℕ)
  pub each : AllByRecursion (IsText kind) texts
  pub whole : read ≡ flat_map (frame kind) texts ++ (received_in lane).held
  pub put : written ≡ flat_map (frame kind) texts
  pub dropped : (received_in lane).dropped ≡ min (length written) last_place

-- what each of these pieces hands out, one after another, behind the bytes before them
abbrev pub handed_in_all : LaneKind → List ℕ → List (List ℕ) → List ℕ
handed_in_all kind bytes [] = []
handed_in_all kind bytes (piece ∷ pieces) =
    handed_of kind bytes piece ++ handed_in_all kind (bytes ++ piece) pieces
