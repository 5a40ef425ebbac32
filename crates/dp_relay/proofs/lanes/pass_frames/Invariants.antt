use Rattle.std.proofs.Common.{◌≡◌, length}
use Rattle.dp_lanes.specs.Places.{kind_of, received_in}
use Rattle.dp_relay.specs.inner.Turns.{Putting}
use Rattle.dp_relay.proofs.lanes.pass_frames.Given as goal

-- what was put so far are whole frames, and the sink has not failed
abbrev pub invariant-frames : goal.invariant-frames
invariant-frames g l =
    (kind_of l.lane ≡ kind_of l.fn.lane)
    × Putting l.fn.lane l.lane (g.K.Sink.taken l.fn.sink) (g.K.Sink.taken l.sink)
    × (g.K.Sink.faults l.sink ≡ g.K.Sink.faults l.fn.sink)

abbrev pub decreases-frames : goal.decreases-frames
decreases-frames g l = length (received_in l.lane).held
