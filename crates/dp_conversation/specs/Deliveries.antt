-- One answer, or one packet, that is sent over a link, and what a fault leaves of it.
use Rattle.std.specs.Prelude.{◌≡◌, ℕ, [], None}
use Rattle.std.specs.List.{flat_map}
use Rattle.std.specs.Io.KnownBytes.{Appends}
use Rattle.dp_outside.specs.Causes.{Rose}
use Rattle.dp_outside.specs.Changes.{Change}
use Rattle.dp_wire.specs.Frames.{packet_frame}
use Rattle.dp_conversation.specs.declared.link.Fault.{Fault}
use Rattle.dp_conversation.specs.declared.link.Fault.TheVariants.{Write, Out, Memory}
use Rattle.dp_conversation.specs.declared.responder.Answer.{Answer}
use Rattle.dp_conversation.specs.Folds.{nothing_sent, reply_of}
use Rattle.dp_conversation.specs.Service.{ConversationCutBy, SendsPast}

-- The packets of an answer were sent, and what the program wrote was printed; nothing else was.
-- What the session knows then does not matter.
pub record DeliversAnswer {E : Type 0} (answer : Answer E) (sink out : Change) : Type 0 where
  pub sent : Appends sink.told_before sink.told (flat_map packet_frame answer.packets)
  pub printed : Appends out.told_before out.told answer.program

-- A fault cut the delivery of an answer short, as it may cut that of the only command of a
-- session. What the session knows does not matter: a number stands for it.
pub record CutsAnswer {E : Type 0} (answer : Answer E) (fault : Fault E)
    (sink out : Change) : Type 0 where
  pub sent : SendsPast {S = ℕ} {E = E} [] (nothing_sent 0) (reply_of answer 0) sink
  pub by : ConversationCutBy {S = ℕ} fault [] (nothing_sent 0) (reply_of answer 0) sink out

-- Why a packet that answers no command was not sent: the link's sink failed, and no command had
-- ended the session; or memory ran out. The program's own output is not asked.
abbrev pub SendFault : {E : Type 0} → Fault E → Change → Type 0
SendFault (Write ended) sink = Rose sink.faults_before sink.faults × (ended ≡ None)
SendFault Out sink = ⊥
SendFault Memory sink = Unit {0}
