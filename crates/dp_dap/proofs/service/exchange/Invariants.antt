use Rattle.std.proofs.Common.{◌≡◌, ◌≤◌, ◌+◌, ◌-◌, ℕ, None, List, length}
use Rattle.std.specs.Io.KnownBytes.{Consumes}
use Rattle.dp_bodies.specs.Frames.{IsPartialBody}
use Rattle.dp_outside.specs.Changes.{change}
use Rattle.dp_conversation.specs.Folds.{replies}
use Rattle.dp_conversation.specs.Service.{byte_limit}
use Rattle.dp_dap.specs.Dap.{reply}
use Rattle.dp_dap.specs.inner.Exchanges.{Answered}
use Rattle.dp_dap.proofs.service.exchange.Given as goal

abbrev pub invariant-pieces : goal.invariant-pieces
invariant-pieces g l =
    (g.S.Source.faults l.fn.source ≤ g.S.Source.faults l.source) × (g.K.Sink.faults l.fn.sink ≤ g.K.Sink.faults l.sink)
    × (l.count ≤ byte_limit) × (l.bodies.dropped + length l.bodies.held ≡ l.count) × IsPartialBody l.bodies.held
    × ((read : List ℕ) × (length read ≡ l.count)
    × Consumes (g.S.Source.left l.fn.source) (g.S.Source.left l.source) read
    × ((answered : Answered l.fn.gateway l.gateway read l.bodies.held
    (change g.K.Sink.taken g.K.Sink.faults l.fn.sink l.sink))
    × ((replies reply l.fn.gateway answered.texts).ended ≡ None)))

abbrev pub decreases-pieces : goal.decreases-pieces
decreases-pieces g l = byte_limit - l.count
