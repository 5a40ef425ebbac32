use Rattle.std.proofs.Common.{◌≤◌, ◌+◌, ◌-◌, length, None}
use Rattle.dp_async.specs.Heard.{byte_limit}
use Rattle.dp_async.specs.inner.Standing.{Start, StandsAt, objects_of}
use Rattle.dp_async.proofs.listener.Listener.answer_held.Given as goal

abbrev pub invariant-commands : goal.invariant-commands
invariant-commands g l =
    (l.self.count ≤ byte_limit) × (l.fn.self.count ≤ l.self.count)
    × ((start : Start) → StandsAt start None l.fn.self
    (objects_of g.Q.Polled g.K.Sink g.E.Sink l.fn.polled l.fn.sink l.fn.out)
    → StandsAt start None l.self
    (objects_of g.Q.Polled g.K.Sink g.E.Sink l.polled l.sink l.out))

abbrev pub decreases-commands : goal.decreases-commands
decreases-commands g l = (byte_limit - l.self.count) + length l.self.held.held
