use Rattle.std.proofs.Common.{◌≤◌, ◌+◌, length}
use Rattle.dp_async.specs.Heard.{MayGoOn, SetOut, byte_limit, on_its_way}
use Rattle.dp_async.specs.inner.Standing.{Start, StandsAt, objects_of, stage_of}
use Rattle.dp_async.proofs.listener.Listener.go.Given as goal

abbrev pub invariant-moments : goal.invariant-moments
invariant-moments g l =
    (l.self.count ≤ byte_limit) × (l.fn.self.count ≤ l.self.count)
    × (length l.self.held.held + l.fn.self.count ≤ length l.fn.self.held.held + l.self.count)
    × ((start : Start) → StandsAt start (on_its_way l.going SetOut) l.fn.self
    (objects_of g.Q.Polled g.K.Sink g.E.Sink l.fn.polled l.fn.sink l.fn.out)
    → StandsAt start (on_its_way l.going (stage_of l.fresh)) l.self
    (objects_of g.Q.Polled g.K.Sink g.E.Sink l.polled l.sink l.out)
    × MayGoOn (stage_of l.fresh) l.self.held.held)
