use Rattle.std.proofs.Common.{◌≡◌, length}
use Rattle.dp_lanes.specs.Places.{received_in, lane_piece_limit}
use Rattle.dp_relay.specs.Ends.{Gives}
use Rattle.dp_relay.specs.inner.Openings.{IsUndropped}
use Rattle.dp_relay.proofs.engines.first_key.Given as goal

-- the lane holds all that the source gave
abbrev pub invariant-pieces : goal.invariant-pieces
invariant-pieces g l =
    IsUndropped l.lane
    × (length l.buffer ≡ lane_piece_limit)
    × Gives (g.S.Source.left l.fn.source) (g.S.Source.left l.source) (g.S.Source.given l.fn.source)
    (g.S.Source.given l.source) (received_in l.lane).held
    × (g.S.Source.faults l.source ≡ g.S.Source.faults l.fn.source)
