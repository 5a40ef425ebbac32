-- What a proxy answers to the command of an IDE, by the journal of its registry, and the entry that
-- this leaves there.
use Rattle.std.specs.Prelude.{⊤, ℕ, Bool, List, Option, Some, None, Result, Ok, Err}
use Rattle.dp_packet.specs.declared.packet.Packet.TheVariants as packet
use Rattle.dp_packet.specs.declared.packet.ProxyReply.{ProxyReply}
use Rattle.dp_packet.specs.declared.packet.ProxyReply.TheVariants.{Started, Stopped, Refused}
use Rattle.dp_packet.specs.Text.{text}
use Rattle.dp_registry.specs.declared.entry.Entry.{Entry}
use Rattle.dp_registry.specs.declared.entry.Entry.TheVariants as entry
use Rattle.dp_registry.specs.declared.refusal.Refusal.{Refusal}
use Rattle.dp_registry.specs.declared.refusal.Refusal.TheVariants as refusal
use Rattle.dp_outside.specs.Names.{IsKey}
use Rattle.dp_registry.specs.Verdicts.{register_verdict, stop_verdict, reply_of, noted}
use Rattle.dp_wire.specs.Frames.{packet_frame}
use Rattle.dp_proxy.specs.declared.calls.Call.{Call}
use Rattle.dp_proxy.specs.declared.calls.Call.TheVariants.{Register, Stop}
use Rattle.dp_proxy.specs.Calls.{call_of, is_stopping}

-- what the registry answers to the call of a host
abbrev pub verdict_on : List Entry → List ℕ → Call → Result ⊤ Refusal
verdict_on journal host (Register port key multiple) = register_verdict journal host port key
verdict_on journal host (Stop key) = stop_verdict journal host key

-- the entry of the call
abbrev pub entry_of : List ℕ → Call → ℕ → Entry
entry_of host (Register port key multiple) reply = entry.Register host port key multiple reply
entry_of host (Stop key) reply = entry.Stop host key reply

-- the reply to a call that was accepted
abbrev pub accepted : List ℕ → Call → ProxyReply
accepted host (Register port key multiple) = Started key host port
accepted host (Stop key) = Stopped key

-- the number of a refusal; the last two never answer such a call
abbrev pub id_of : Refusal → ℕ
id_of (refusal.Taken host port) = 1
id_of refusal.Unknown = 2
id_of refusal.NotYours = 3
id_of (refusal.Full events sessions) = 5
id_of (refusal.Busy session) = 0
id_of refusal.Memory = 0

-- a command that names no call has the refusal of number 4
abbrev pub reply_by : Bool → List ℕ → Option Call → Result ⊤ Refusal → ProxyReply
reply_by stopping host None verdict = Refused stopping 4
reply_by stopping host (Some call) (Ok done) = accepted host call
reply_by stopping host (Some call) (Err why) = Refused stopping (id_of why)

-- the reply to a command, for this verdict on its call
abbrev pub reply_for : List ℕ → List ℕ → Result ⊤ Refusal → ProxyReply
reply_for host command verdict = reply_by (is_stopping command) host (call_of command) verdict

abbrev pub verdict_of : List Entry → List ℕ → Option Call → Result ⊤ Refusal
verdict_of journal host None = Ok tt
verdict_of journal host (Some call) = verdict_on journal host call

-- the reply to the command of a host
abbrev pub reply : List Entry → List ℕ → List ℕ → ProxyReply
reply journal host command =
    reply_for host command (verdict_of journal host (call_of command))

-- what is sent of it
abbrev pub reply_frame : List Entry → List ℕ → List ℕ → List ℕ
reply_frame journal host command = packet_frame (text (packet.Proxy (reply journal host command)))

-- the journal after it: with the entry of its call, if it names one that makes an entry
abbrev pub registered_by : List Entry → List ℕ → Option Call → List Entry
registered_by journal host None = journal
registered_by journal host (Some call) =
    noted journal (entry_of host call) (reply_of (verdict_on journal host call))

abbrev pub registered : List Entry → List ℕ → List ℕ → List Entry
registered journal host command = registered_by journal host (call_of command)

-- ---- conditions of the calls of this crate

abbrev pub IsKeyed : Call → Type 0
IsKeyed (Register port key multiple) = IsKey key
IsKeyed (Stop key) = IsKey key

-- the verdict is one on a registration or a stop, and no lack of memory
abbrev pub IsAnswerable : Result ⊤ Refusal → Type 0
IsAnswerable (Err (refusal.Busy session)) = ⊥
IsAnswerable (Err refusal.Memory) = ⊥
IsAnswerable verdict = Unit {0}
