use Rattle.std.proofs.Common.{◌≡◌, ◌≤◌, ◌-◌, ℕ, None, List, length}
use Rattle.dp_wire.specs.Frames.{IsPartialCommand}
use Rattle.dp_outside.specs.Changes.{change}
use Rattle.dp_conversation.specs.inner.Exchanges.{Conversation}
use Rattle.dp_conversation.specs.Folds.{replies}
use Rattle.dp_conversation.specs.Service.{byte_limit}
use Rattle.dp_conversation.proofs.link.exchange.Given as goal

abbrev pub invariant-pieces : goal.invariant-pieces
invariant-pieces g l =
    (g.S.Source.faults l.fn.source ≤ g.S.Source.faults l.source) × (g.K.Sink.faults l.fn.sink ≤ g.K.Sink.faults l.sink)
    × (g.E.Sink.faults l.fn.out ≤ g.E.Sink.faults l.out)
    × (l.count ≤ byte_limit) × IsPartialCommand l.talk.held.held
    × ((read : List ℕ) × (length read ≡ l.count)
    × ((talk : Conversation g.A.Responder.step l.fn.talk.session l.talk.session l.fn.init read l.talk.held.held
    (change g.S.Source.left g.S.Source.faults l.fn.source l.source)
    (change g.K.Sink.taken g.K.Sink.faults l.fn.sink l.sink) (change g.E.Sink.taken g.E.Sink.faults l.fn.out l.out))
    × ((replies g.A.Responder.step l.fn.talk.session talk.taken).ended ≡ None)))

abbrev pub decreases-pieces : goal.decreases-pieces
decreases-pieces g l = byte_limit - l.count
