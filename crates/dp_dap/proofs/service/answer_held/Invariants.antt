use Rattle.std.proofs.Common.{◌≡◌, ◌≤◌, ◌+◌, None, length}
use Rattle.dp_outside.specs.Changes.{change}
use Rattle.dp_conversation.specs.Folds.{replies}
use Rattle.dp_conversation.specs.Service.{byte_limit}
use Rattle.dp_dap.specs.Dap.{reply}
use Rattle.dp_dap.specs.inner.Exchanges.{Answered}
use Rattle.dp_dap.proofs.service.answer_held.Given as goal

abbrev pub invariant-bodies : goal.invariant-bodies
invariant-bodies g l =
    (g.K.Sink.faults l.fn.sink ≤ g.K.Sink.faults l.sink)
    × (l.bodies.dropped + length l.bodies.held ≡ l.fn.bodies.dropped + length l.fn.bodies.held)
    × (l.bodies.dropped + length l.bodies.held ≤ byte_limit)
    × ((answered : Answered l.fn.gateway l.gateway l.fn.bodies.held l.bodies.held
    (change g.K.Sink.taken g.K.Sink.faults l.fn.sink l.sink))
    × ((replies reply l.fn.gateway answered.texts).ended ≡ None))

abbrev pub decreases-bodies : goal.decreases-bodies
decreases-bodies g l = length l.bodies.held
