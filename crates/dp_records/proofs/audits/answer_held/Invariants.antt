-- What all commands lead to is what those so far have led to, and then what those that are held do.
use Rattle.std.proofs.Common.{List, ℕ, length}
use Rattle.dp_records.specs.inner.Balances.{SessionReports}
use Rattle.dp_records.specs.inner.Turns.{HasAnswered}
use Rattle.dp_records.proofs.audits.answer_held.Given as goal

abbrev pub invariant-commands : goal.invariant-commands
invariant-commands g l =
    (frames program : List ℕ)
    × HasAnswered g.A.Responder.step l.fn.talk.session l.talk.session l.fn.talk.held.held l.talk.held.held frames
    program
    × SessionReports l.fn.sent l.sent frames
    × SessionReports l.fn.own l.own program

abbrev pub decreases-commands : goal.decreases-commands
decreases-commands g l = length l.talk.held.held
