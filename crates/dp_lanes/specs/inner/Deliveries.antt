-- What a lane hands out of what it holds.
use Rattle.std.specs.Prelude.{◌≡◌, ◌⊎◌, ℕ, ◌+◌, ◌≤◌, min, List, ◌++◌, length, flat_map}
use Rattle.std.specs.List.{AllByRecursion}
use Rattle.dp_wire.specs.Received.{Received, last_place}
use Rattle.dp_lanes.specs.declared.lane.Lane.{Lane}
use Rattle.dp_lanes.specs.declared.lane.LaneKind.{LaneKind}
use Rattle.dp_lanes.specs.Lanes.{frame}
use Rattle.dp_lanes.specs.Places.{IsText, IsPart, BeginsNone, kind_of, received_in}

-- the first texts of what was held are dropped, and their frames are put
pub record Hands (kind : LaneKind) (old new : Received) (before after : List ℕ) : Type 0 where
  pub texts : List (List ℕ)
  pub each : AllByRecursion (IsText kind) texts
  pub held : old.held ≡ flat_map (frame kind) texts ++ new.held
  pub dropped : old.dropped ≤ last_place
      → new.dropped ≡ min (old.dropped + length (flat_map (frame kind) texts)) last_place
  pub put : after ≡ before ++ flat_map (frame kind) texts

-- and no frame begins what is held then
abbrev pub IsRest : LaneKind → List ℕ → Type 0
IsRest kind held = IsPart kind held ⊎ BeginsNone kind held

pub record HandsAll (old new : Lane) (before after : List ℕ) : Type 0 where
  pub way : kind_of new ≡ kind_of old
  pub hands : Hands (kind_of old) (received_in old) (received_in new) before after
  pub rest : IsRest (kind_of old) (received_in new).held
