use Rattle.std.proofs.Common.{◌≡◌, ◌≤◌, ◌-◌, None}
use Rattle.dp_wire.specs.Frames.{packet_frame}
use Rattle.dp_engine.specs.Session.{opening}
use Rattle.dp_async.specs.Heard.{byte_limit}
use Rattle.dp_async.specs.inner.Standing.{Start, StandsAt, objects_of}
use Rattle.dp_async.proofs.listener.Listener.listen.Given as goal

abbrev pub invariant-pieces : goal.invariant-pieces
invariant-pieces g l =
    (l.self.count ≤ byte_limit)
    × ((start : Start) → start.first ≡ packet_frame l.fn.init
    → l.fn.self.session ≡ opening start.bundle start.bound
    → start.before ≡ (objects_of g.Q.Polled g.K.Sink g.E.Sink l.fn.polled l.fn.sink l.fn.out)
    → StandsAt start None l.self
    (objects_of g.Q.Polled g.K.Sink g.E.Sink l.polled l.sink l.out))

abbrev pub decreases-pieces : goal.decreases-pieces
decreases-pieces g l = byte_limit - l.self.count
