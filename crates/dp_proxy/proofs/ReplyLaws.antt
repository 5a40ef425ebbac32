-- The text of a reply is that of a packet.
use Rattle.std.proofs.Common.{◌≡◌, ℕ, ◌+◌, ◌*◌, ◌≤◌, ◌==◌, Bool, true, false, List, [], ◌∷◌, length, codes, Option, Some, None, Result, Ok, Err}
use Rattle.std.proofs.Common.{refl, arith}
use Rattle.std.specs.Prelude.{⊤}
use Rattle.std.proofs.lemmas.Bool.{cond_both}
use Rattle.std.proofs.lemmas.Fmt.{length-decimal-le}
use Rattle.std.specs.Fmt.{decimal}
use Rattle.dp_markup.specs.declared.tree.Element.{Element}
use Rattle.dp_packet.specs.declared.packet.Packet.{Packet}
use Rattle.dp_packet.specs.declared.packet.Packet.TheVariants as packet
use Rattle.dp_packet.specs.declared.packet.ProxyReply.{ProxyReply}
use Rattle.dp_packet.specs.declared.packet.ProxyReply.TheVariants.{Started, Stopped, Refused}
use Rattle.dp_packet.specs.Messages.{reason_of}
use Rattle.dp_packet.specs.Packets.{element_of, message_node, refusal_name}
use Rattle.dp_packet.specs.Parts.{element, text_nodes}
use Rattle.dp_packet.specs.Text.{text}
use Rattle.dp_packet.proofs.LengthLaws.{weight, written_short, packet_short, packet_some, child_short, text_short}
use Rattle.dp_registry.specs.declared.entry.Entry.{Entry}
use Rattle.dp_registry.specs.declared.refusal.Refusal.{Refusal}
use Rattle.dp_registry.specs.declared.refusal.Refusal.TheVariants as refusal
use Rattle.dp_outside.specs.Names.{IsHost}
use Rattle.dp_wire.specs.Frames.{IsPacketText}
use Rattle.dp_proxy.specs.declared.calls.Call.{Call}
use Rattle.dp_proxy.specs.declared.calls.Call.TheVariants.{Register, Stop}
use Rattle.dp_proxy.specs.Calls.{call_of, is_stopping}
use Rattle.dp_proxy.specs.Replies.{reply, reply_by, verdict_of, accepted, id_of}
use Rattle.dp_proxy.proofs.CallLaws.{IsSmall, call_small}

abbrev Fits : ProxyReply → Type 0
Fits r = IsPacketText (text (packet.Proxy r))

fits_in : (r : ProxyReply) → length (text (packet.Proxy r)) ≤ 10000 → Fits r
fits_in r short = record { some_byte = packet_some (packet.Proxy r); fits = omega arith }

started_fits : (key host : List ℕ) (port : ℕ) → length key ≤ 128 → length host ≤ 64 → port ≤ 65535
    → Fits (Started key host port)
started_fits key host port short narrow small =
    let p : Packet = packet.Proxy (Started key host port) in
    let whole = packet_short p _ (written_short (element_of p) 0 (omega arith)) in
    let digits = length-decimal-le 5 port (omega arith) (omega arith) (omega arith) in
    fits_in (Started key host port) (omega (arith, whole, digits))

stopped_fits : (key : List ℕ) → length key ≤ 128 → Fits (Stopped key)
stopped_fits key short =
    let p : Packet = packet.Proxy (Stopped key) in
    let whole = packet_short p _ (written_short (element_of p) 0 (omega arith)) in
    fits_in (Stopped key) (omega (arith, whole))

reason_short : (id : ℕ) → length (reason_of id) ≤ 19
reason_short id =
    cond_both (id == 1) _ _ (λ t. length t ≤ 19) (λ e. omega arith) (λ e.
    cond_both (id == 2) _ _ (λ t. length t ≤ 19) (λ e. omega arith) (λ e.
    cond_both (id == 3) _ _ (λ t. length t ≤ 19) (λ e. omega arith) (λ e.
    cond_both (id == 4) _ _ (λ t. length t ≤ 19) (λ e. omega arith) (λ e.
    cond_both (id == 5) _ _ (λ t. length t ≤ 19) (λ e. omega arith) (λ e. omega arith)))))

name_short : (stopping : Bool) → length (refusal_name stopping) ≤ 9
name_short true = omega arith
name_short false = omega arith

refused_fits : (stopping : Bool) (id : ℕ) → id ≤ 5 → Fits (Refused stopping id)
refused_fits stopping id small =
    let p : Packet = packet.Proxy (Refused stopping id) in
    let message : Element = element (codes "message") [] (text_nodes (reason_of id)) in
    let error : Element = element (codes "error") ((codes "id", decimal id) ∷ []) (message_node (reason_of id) ∷ []) in
    let inner = written_short message (6 * length (reason_of id)) (text_short (reason_of id)) in
    let outer = written_short error (19 + 6 * length (reason_of id)) (child_short message _ inner) in
    let whole = packet_short p _ (written_short (element_of p)
    (15 + weight ((codes "id", decimal id) ∷ []) + (19 + 6 * length (reason_of id))) (child_short error _ outer)) in
    let digits = length-decimal-le 1 id (omega arith) (omega arith) (omega arith) in
    fits_in (Refused stopping id) (omega (arith, whole, digits, reason_short id, name_short stopping))

id_small : (why : Refusal) → id_of why ≤ 5
id_small (refusal.Taken host port) = omega arith
id_small refusal.Unknown = omega arith
id_small refusal.NotYours = omega arith
id_small (refusal.Full events sessions) = omega arith
id_small (refusal.Busy session) = omega arith
id_small refusal.Memory = omega arith

accepted_fits : (host : List ℕ) (call : Call) → IsHost host → IsSmall call → Fits (accepted host call)
accepted_fits host (Register port key multiple) h s = started_fits key host port s.0.short h.short s.1
accepted_fits host (Stop key) h s = stopped_fits key s.0.short

by_fits : (stopping : Bool) (host : List ℕ) (call : Option Call) (verdict : Result ⊤ Refusal) → IsHost host
    → ((c : Call) → call ≡ Some c → IsSmall c)
    → Fits (reply_by stopping host call verdict)
by_fits stopping host None verdict h small = refused_fits stopping 4 (omega arith)
by_fits stopping host (Some call) (Ok done) h small = accepted_fits host call h (small call refl)
by_fits stopping host (Some call) (Err why) h small = refused_fits stopping (id_of why) (id_small why)

pub reply_fits : (journal : List Entry) (host command : List ℕ) → IsHost host
    → IsPacketText (text (packet.Proxy (reply journal host command)))
reply_fits journal host command h =
    by_fits (is_stopping command) host (call_of command) (verdict_of journal host (call_of command)) h
    (λ call e. call_small command call e)
