use Rattle.std.proofs.Common.{◌≡◌, ◌≤◌, None, length}
use Rattle.dp_outside.specs.Changes.{change}
use Rattle.dp_conversation.specs.inner.Exchanges.{Reached}
use Rattle.dp_conversation.specs.Folds.{replies}
use Rattle.dp_conversation.proofs.link.answer_held.Given as goal

abbrev pub invariant-commands : goal.invariant-commands
invariant-commands g l =
    (g.K.Sink.faults l.fn.sink ≤ g.K.Sink.faults l.sink) × (g.E.Sink.faults l.fn.out ≤ g.E.Sink.faults l.out)
    × ((reached : Reached g.A.Responder.step l.fn.talk.session l.talk.session l.fn.talk.held.held l.talk.held.held
    (change g.K.Sink.taken g.K.Sink.faults l.fn.sink l.sink) (change g.E.Sink.taken g.E.Sink.faults l.fn.out l.out))
    × ((replies g.A.Responder.step l.fn.talk.session reached.taken).ended ≡ None))

abbrev pub decreases-commands : goal.decreases-commands
decreases-commands g l = length l.talk.held.held
