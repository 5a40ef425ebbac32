-- Where a link is broken. Of this the transcript of a replay says nothing.
use Rattle.std.specs.Prelude.{◌≡◌, ◌⊎◌, ℕ, false, List}
use Rattle.dp_lanes.specs.declared.lane.LaneKind.TheVariants.{Up, Down}
use Rattle.dp_lanes.specs.Lanes.{is_bad}
use Rattle.dp_lanes.specs.Places.{IsBadAt}
use Rattle.dp_proxy.specs.declared.events.Act.{Act}
use Rattle.dp_proxy.specs.Links.{stream}

-- in the lane of commands, or else in that of packets
abbrev pub BreaksAt : List Act → ℕ → Type 0
BreaksAt acts offset =
    IsBadAt Down (stream Down acts) offset
    ⊎ ((is_bad Down (stream Down acts) ≡ false) × IsBadAt Up (stream Up acts) offset)
