use Rattle.std.proofs.Common.{◌≡◌, ◌≤◌, length}
use Rattle.dp_engine.specs.declared.passes.Going.{Going}
use Rattle.dp_async.specs.Heard.{GoesOn, on_its_way}
use Rattle.dp_async.specs.inner.Standing.{Objects, Start, StandsAt, over_link}
use Rattle.dp_async.proofs.listener.Listener.hear_all.Given as goal

abbrev pub invariant-commands : goal.invariant-commands
invariant-commands g l =
    (l.self.count ≡ l.fn.self.count) × (length l.self.held.held ≤ length l.fn.self.held.held)
    × ((start : Start) (going : Going) (o : Objects)
    → StandsAt start (on_its_way going GoesOn) l.fn.self
    (over_link g.K.Sink l.fn.sink o)
    → StandsAt start (on_its_way going GoesOn) l.self (over_link g.K.Sink l.sink o))

abbrev pub decreases-commands : goal.decreases-commands
decreases-commands g l = length l.self.held.held
