use Rattle.std.proofs.Common.{◌≡◌, ◌+◌, ◌≤◌, length}
use Rattle.dp_lanes.specs.Lanes.{texts_in}
use Rattle.dp_lanes.specs.Places.{kind_of, received_in}
use Rattle.dp_lanes.proofs.counts.count_frames.Given as goal

abbrev pub invariant-frames : goal.invariant-frames
invariant-frames l =
    (kind_of l.lane ≡ l.fn.kind)
    × (l.count + length (texts_in l.fn.kind (received_in l.lane).held) ≡ length (texts_in l.fn.kind l.bytes))
    × (l.count + length (received_in l.lane).held ≤ length l.bytes)

abbrev pub decreases-frames : goal.decreases-frames
decreases-frames l = length (received_in l.lane).held
