-- The lanes of a session that stand for what happened on its link.
use Rattle.std.specs.Prelude.{◌≡◌, ℕ, true, false, List, Option, Some, None}
use Rattle.dp_proxy.specs.declared.events.Act.{Act}
use Rattle.dp_lanes.specs.declared.lane.Lane.{Lane}
use Rattle.dp_lanes.specs.declared.lane.LaneKind.TheVariants.{Up, Down}
use Rattle.dp_proxy.specs.Links.{stream, is_broken}
use Rattle.dp_proxy.specs.Places.{BreaksAt}
use Rattle.dp_lanes.specs.Places.{Follows}

pub record FollowBoth (acts : List Act) (up down : Lane) : Type 0 where
  pub packets : Follows Up up (stream Up acts)
  pub commands : Follows Down down (stream Down acts)

pub record IsBrokenAt (acts : List Act) (offset : ℕ) : Type 0 where
  pub broken : is_broken acts ≡ true
  pub place : BreaksAt acts offset

-- where the link is broken, the place of that
abbrev pub BrokenPlace : List Act → Option ℕ → Type 0
BrokenPlace acts None = is_broken acts ≡ false
BrokenPlace acts (Some offset) = IsBrokenAt acts offset
