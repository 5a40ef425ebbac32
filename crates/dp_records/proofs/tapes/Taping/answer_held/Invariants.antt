-- What all commands lead to is what those so far have led to, and then what those that are held do.
use Rattle.std.proofs.Common.{◌≤◌, ◌++◌, List, ℕ, length}
use Rattle.dp_records.specs.inner.Tapings.{PutSome}
use Rattle.dp_records.specs.inner.Turns.{HasAnswered}
use Rattle.dp_records.proofs.tapes.Taping.answer_held.Given as goal

abbrev pub invariant-commands : goal.invariant-commands
invariant-commands g l =
    (g.K.Sink.faults l.fn.sink ≤ g.K.Sink.faults l.sink)
    × ((frames program : List ℕ)
    × HasAnswered g.A.Responder.step l.fn.self.talk.session l.self.talk.session l.fn.self.talk.held.held
    l.self.talk.held.held frames program
    × PutSome (l.fn.self.sent.items ++ frames) (l.fn.self.own.items ++ program) l.self.sent.items l.self.own.items
    (g.K.Sink.taken l.fn.sink) (g.K.Sink.taken l.sink))

abbrev pub decreases-commands : goal.decreases-commands
decreases-commands g l = length l.self.talk.held.held
