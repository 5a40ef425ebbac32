-- The packets in which output goes to the IDE.
use Rattle.std.proofs.Common.{◌≡◌, ℕ, zero, suc, ◌+◌, ◌-◌, ◌/◌, ◌*◌, ◌≤◌, ◌<◌, List, [], ◌∷◌, ◌++◌, length, take, drop, replicate, sym, ap, subst, ◌∙◌, arith, length-append, length-drop, append_assoc}
use Rattle.std.specs.Prelude.{map, Result, Ok, Err, IfOk}
use Rattle.std.specs.List.{AllByRecursion}
use Rattle.std.proofs.lemmas.List.{length-replicate}
use Rattle.base64.specs.Engines.{standard}
use Rattle.base64.specs.Rfc4648.{encode_symbols, padding_len}
use Rattle.base64.proofs.RoundTrip.{length-encode_symbols}
use Rattle.dp_command.specs.declared.command.StreamMode.{StreamMode}
use Rattle.dp_command.specs.declared.command.StreamMode.TheVariants.{Disable, Copy, Redirect}
use Rattle.dp_packet.specs.declared.packet.Packet.{Packet}
use Rattle.dp_packet.specs.declared.packet.Packet.TheVariants as packet
use Rattle.dp_packet.specs.Packets.{element_of}
use Rattle.dp_packet.specs.Parts.{Text, base64}
use Rattle.dp_packet.specs.Text.{text}
use Rattle.dp_packet.proofs.LengthLaws.{packet_short, packet_some, text_short, written_short}
use Rattle.dp_wire.specs.Frames.{IsPacketText, packet_limit}
use Rattle.dp_engine.specs.Answers.{to_ide}
use Rattle.dp_engine.specs.Responses.{first_pieces, stream_size, streams}

-- ---- one packet

abbrev symbols : List ℕ
symbols = standard.encode_table

base64_few : (bytes : Text) → length bytes ≤ 4096 → length (base64 bytes) ≤ 5500
base64_few bytes few =
    let padding : List ℕ = replicate (padding_len (length bytes)) 61 in
    omega (
      arith,
      few,
      length-append (encode_symbols symbols bytes) padding,
      length-encode_symbols symbols bytes,
      length-replicate {A = ℕ} (padding_len (length bytes)) 61,
    )

stream_short : (piece : Text) → length piece ≤ 4096 → length (text (packet.Stream piece)) ≤ packet_limit
stream_short piece few =
    let whole : Packet = packet.Stream piece in
    let short = packet_short whole _ (written_short (element_of whole) (6 * length (base64 piece))
    (text_short (base64 piece))) in
    omega (arith, short, base64_few piece few)

stream_is_text : (piece : Text) → length piece ≤ 4096 → IsPacketText (text (packet.Stream piece))
stream_is_text piece few = record { some_byte = packet_some (packet.Stream piece); fits = stream_short piece few }

-- ---- all of them

take_few : (most : ℕ) (bytes : Text) → length (take most bytes) ≤ most
take_few zero bytes = omega arith
take_few (suc most) [] = omega arith
take_few (suc most) (b ∷ bytes) = omega (arith, take_few most bytes)

pieces_are_texts : (count : ℕ) (output : Text)
    → AllByRecursion IsPacketText (map (λ piece. text (packet.Stream piece)) (first_pieces count output))
pieces_are_texts zero output = tt
pieces_are_texts (suc count) output = (
  stream_is_text (take stream_size output) (take_few stream_size output),
  pieces_are_texts count (drop stream_size output),
)

pub both_texts : (a b : List Text) → AllByRecursion IsPacketText a → AllByRecursion IsPacketText b
    → AllByRecursion IsPacketText (a ++ b)
both_texts [] b h k = k
both_texts (t ∷ a) b h k = (h.0, both_texts a b h.1 k)

-- what is sent with the text of a response is texts of packets
pub sent_texts : (mode : StreamMode) (output : Text) (before : List Text) (last : Text)
    → AllByRecursion IsPacketText before → IsPacketText last
    → AllByRecursion IsPacketText (to_ide mode output ++ before ++ last ∷ [])
sent_texts mode output before last k h =
    both_texts (to_ide mode output ++ before) (last ∷ []) (both_texts (to_ide mode output) before (told mode) k) (h, tt)
  where
    told : (mode : StreamMode) → AllByRecursion IsPacketText (to_ide mode output)
    told Disable = tt
    told Copy = pieces_are_texts _ output
    told Redirect = pieces_are_texts _ output

pub all_texts : {E : Type 0} (mode : StreamMode) (output : Text) (before : List Text) (last : Text)
    (made : Result (List Text) E) → AllByRecursion IsPacketText before → IsPacketText last
    → IfOk made (λ texts. texts ≡ to_ide mode output ++ before ++ last ∷ [])
    → IfOk made (λ texts. AllByRecursion IsPacketText texts)
all_texts mode output before last (Ok texts) k h is =
    subst (AllByRecursion IsPacketText) (sym is) (sent_texts mode output before last k h)
all_texts mode output before last (Err e) k h is = tt

-- ---- one after another

-- the first piece of output and the others
pub streams_on : (output : Text) → 0 < length output
    → streams output ≡ text (packet.Stream (take stream_size output)) ∷ streams (drop stream_size output)
streams_on output some =
    let count : (length output + 4096 - 1) / 4096 ≡ suc ((length (drop 4096 output) + 4096 - 1) / 4096) = omega
    (arith, some, length-drop 4096 output) in
    ap (λ (n : ℕ). map (λ piece. text (packet.Stream piece)) (first_pieces n output)) count

-- a piece put behind others
pub put_on : (texts all : List Text) (rest piece next : Text) → 0 < length rest → piece ≡ take stream_size rest
    → next ≡ drop stream_size rest
    → all ≡ texts ++ streams rest → all ≡ (texts ++ text (packet.Stream piece) ∷ []) ++ streams next
put_on texts all rest piece next some p n e =
    e ∙ ap (λ (l : List Text). texts ++ l) (streams_on rest some)
    ∙ (λ i. texts ++ text (packet.Stream (sym p i)) ∷ streams (sym n i))
    ∙ sym (append_assoc texts (text (packet.Stream piece) ∷ []) (streams next))
