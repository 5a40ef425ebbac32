use Rattle.std.proofs.Common.{◌≡◌, length}
use Rattle.dp_lanes.specs.Places.{kind_of, received_in, lane_piece_limit}
use Rattle.dp_relay.specs.Ends.{ends}
use Rattle.dp_relay.specs.inner.Turns.{Going}
use Rattle.dp_relay.proofs.lanes.run_lane.Given as goal

-- what was put so far are whole frames of what was read behind what was held
abbrev pub invariant-pieces : goal.invariant-pieces
invariant-pieces g l =
    (length l.buffer ≡ lane_piece_limit)
    × Going (kind_of l.fn.lane) (received_in l.fn.lane).held (ends g.S.Source g.K.Sink l.fn.source l.fn.sink)
    (ends g.S.Source g.K.Sink l.source l.sink) l.lane
