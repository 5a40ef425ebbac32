use Rattle.std.proofs.Common.{◌≡◌, length}
use Rattle.std.specs.List.{AllByRecursion}
use Rattle.dp_wire.specs.Frames.{IsPacketText, rest_of}
use Rattle.dp_conversation.specs.Folds.{followed, reply_of}
use Rattle.dp_conversation.specs.Growth.{served}
use Rattle.dp_conversation.proofs.AnswerAllLaws.{Untouched}
use Rattle.dp_conversation.proofs.conversation.Conversation.answer_all.Given as goal

-- What was answered, and what is left leads to, is what all leads to. A session that had failed has answered nothing.
abbrev pub invariant-commands : goal.invariant-commands
invariant-commands g l =
    (followed (reply_of l.all l.self.session) (served g.A.Responder.step l.self.session l.self.held.held)
    ≡ served g.A.Responder.step l.fn.self.session l.fn.self.held.held)
    × AllByRecursion IsPacketText l.all.packets
    × (rest_of l.self.held.held ≡ rest_of l.fn.self.held.held)
    × Untouched g.A.Responder.failed l.fn.self.session l.self.session l.fn.self.held.held l.self.held.held l.all.ended

abbrev pub decreases-commands : goal.decreases-commands
decreases-commands g l = length l.self.held.held
