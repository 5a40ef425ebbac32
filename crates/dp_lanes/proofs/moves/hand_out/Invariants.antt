use Rattle.std.proofs.Common.{◌≡◌, length}
use Rattle.dp_lanes.specs.Places.{kind_of, received_in}
use Rattle.dp_lanes.specs.inner.Deliveries.{Hands}
use Rattle.dp_lanes.proofs.moves.hand_out.Given as goal

abbrev pub invariant-frames : goal.invariant-frames
invariant-frames l =
    (kind_of l.lane ≡ kind_of l.initial.lane)
    × Hands (kind_of l.initial.lane) (received_in l.initial.lane) (received_in l.lane) l.initial.out.items l.out.items

abbrev pub decreases-frames : goal.decreases-frames
decreases-frames l = length (received_in l.lane).held
