-- A packet that is written is read as it was.
use Rattle.std.proofs.Common.{◌≡◌, ℕ, Bool, true, false, ◌&&◌, cond, [], ◌∷◌, Option, Some, None, refl, ap, ◌∙◌, codes, decimal, nat_le, arith}
use Rattle.std.proofs.lemmas.Bool.{and_parts}
use Rattle.std.specs.Prelude.{filter, option_map}
use Rattle.std.specs.List.{list_all}
use Rattle.dp_markup.specs.declared.tree.Element.{Element}
use Rattle.dp_markup.specs.Grammar.{IsMarkup, limit}
use Rattle.dp_markup.specs.Readable.{IsReadable}
use Rattle.dp_markup.proofs.RoundTrip.{behind_prolog}
use Rattle.dp_packet.specs.declared.packet.Packet.{Packet}
use Rattle.dp_packet.specs.declared.packet.Packet.TheVariants as packet
use Rattle.dp_packet.specs.declared.packet.Response.{Response}
use Rattle.dp_packet.specs.declared.packet.Notify.{Notify}
use Rattle.dp_packet.specs.declared.packet.Body.{Body}
use Rattle.dp_packet.specs.declared.packet.BreakLine.{BreakLine}
use Rattle.dp_packet.specs.declared.packet.ProxyReply.TheVariants.{Started, Stopped, Refused}
use Rattle.dp_packet.specs.Parts.{Text, Attributes, element, text_nodes, base64}
use Rattle.dp_packet.specs.Messages.{reason_of}
use Rattle.dp_packet.specs.Packets.{element_of, response_element, stream_element, notify_element, proxy_element, notified_nodes, refusal_node, message_node}
use Rattle.dp_reply.specs.Contents.{◌>>=◌, alone, only, words, elements, bytes_in, most_8, most_16}
use Rattle.dp_reply.specs.Readings.{IsPacket, packet_in, init_in, response_in, stream_in, notify_in, notified_of, error_of, proxy_in, started_in, stopped_in, refused_in, is_own}
use Rattle.dp_packet.specs.Text.{text, declaration}
use Rattle.dp_reply.specs.Norm.{norm, norm_body, norm_response, is_packet, is_body, is_notified, are_bytes, IsRereadable}
use Rattle.dp_reply.proofs.Leaves.{number_is, bytes_are}
use Rattle.dp_reply.proofs.Nodes.{words_text, elements_text, words_none, elements_all}
use Rattle.dp_reply.proofs.Lines.{breakpoint_element, breakpoint_is}
use Rattle.dp_reply.proofs.Bodies.{body_is}
use Rattle.dp_reply.proofs.Declaration.{before_root}

-- ---- responses

all_own : (attributes : Attributes) → list_all is_own attributes ≡ true → filter is_own attributes ≡ attributes
all_own [] own = refl
all_own (a ∷ attributes) own =
    let parts = and_parts (is_own a) (list_all is_own attributes) own in
    ap (λ b. cond b (a ∷ filter is_own attributes) (filter is_own attributes)) parts.0
    ∙ ap (λ l. a ∷ l) (all_own attributes parts.1)

response_is : (r : Response) → (list_all is_own r.attributes && is_body r.body) ≡ true
    → IsReadable limit (response_element r) → response_in (response_element r) ≡ Some (norm_response r)
unfolding response_in limit
response_is r sound readable =
    let parts = and_parts (list_all is_own r.attributes) (is_body r.body) sound in
    let with_body : Attributes → Body
    → Response = λ own b. record { command = r.command; id = r.id; attributes = own; body = b } in
    ap (λ found. found >>= λ b. Some (with_body (filter is_own r.attributes) b)) (body_is r.body parts.1 readable.2)
    ∙ ap (λ own. Some (with_body own (norm_body r.body))) (all_own r.attributes parts.0)

-- ---- streams and notifications

stream_is : (bytes : Text) → are_bytes bytes ≡ true → stream_in (stream_element bytes) ≡ Some bytes
unfolding stream_in
stream_is bytes sound =
    let t = base64 bytes in
    ap (λ all. alone all (words (text_nodes t)) >>= bytes_in) (elements_text t) ∙ ap bytes_in (words_text t)
    ∙ bytes_are bytes sound

told_is : (told : Option BreakLine) → is_notified told ≡ true
    → (alone (words (notified_nodes told)) (elements (notified_nodes told)) >>= only >>= notified_of) ≡ Some told
unfolding breakpoint_element
told_is None sound = refl
told_is (Some line) sound =
    let nodes = notified_nodes (Some line) in
    ap (λ w. alone w (elements nodes) >>= only >>= notified_of) (words_none breakpoint_element (λ _. refl) (line ∷ []))
    ∙ ap (λ all. only all >>= notified_of) (elements_all breakpoint_element (λ _. refl) (line ∷ []))
    ∙ ap (λ found. found >>= λ line. Some (Some line)) (breakpoint_is line sound)

notify_is : (n : Notify) → is_notified n.breakpoint ≡ true → notify_in (notify_element n) ≡ Some n
unfolding notify_in
notify_is n sound =
    ap (λ found. found >>= λ told. Some (record { name = n.name; breakpoint = told })) (told_is n.breakpoint sound)

-- ---- a proxy's answers

refusal_element : ℕ → Element
refusal_element id = element (codes "error") ((codes "id", decimal id) ∷ []) (message_node (reason_of id) ∷ [])

refused_is : (stopping : Bool) (id : ℕ) → nat_le id most_8 ≡ true
    → refused_in stopping (proxy_element (Refused stopping id)) ≡ Some (Refused stopping id)
unfolding refused_in refusal_element
refused_is stopping id sound =
    let nodes = refusal_node id ∷ [] in
    ap (λ w. alone w (elements nodes) >>= only >>= error_of (codes "id") most_8 >>= λ id. Some (Refused stopping id))
    (words_none refusal_element (λ _. refl) (id ∷ []))
    ∙ ap (λ all. only all >>= error_of (codes "id") most_8 >>= λ id. Some (Refused stopping id))
    (elements_all refusal_element (λ _. refl) (id ∷ []))
    ∙ ap (λ n. n >>= λ id. Some (Refused stopping id)) (number_is most_8 id sound (omega arith))

started_is : (key host : Text) (port : ℕ) → nat_le port most_16 ≡ true
    → started_in (proxy_element (Started key host port)) ≡ Some (Started key host port)
unfolding started_in
started_is key host port sound =
    ap (λ n. n >>= λ port. Some (Started key host port)) (number_is most_16 port sound (omega arith))

-- ---- packets

is_read_as : (p : Packet) → is_packet p ≡ true → IsReadable limit (element_of p) → IsPacket (element_of p) (norm p)
unfolding packet_in init_in proxy_in stopped_in
is_read_as (packet.Init i) sound readable = refl
is_read_as (packet.Response r) sound readable = ap (option_map packet.Response) (response_is r sound readable)
is_read_as (packet.Stream bytes) sound readable = ap (option_map packet.Stream) (stream_is bytes sound)
is_read_as (packet.Notify n) sound readable = ap (option_map packet.Notify) (notify_is n sound)
is_read_as (packet.Proxy (Started key host port)) sound readable =
    ap (option_map packet.Proxy) (started_is key host port sound)
is_read_as (packet.Proxy (Stopped key)) sound readable = refl
is_read_as (packet.Proxy (Refused true id)) sound readable = ap (option_map packet.Proxy) (refused_is true id sound)
is_read_as (packet.Proxy (Refused false id)) sound readable = ap (option_map packet.Proxy) (refused_is false id sound)

pub is_read : (p : Packet) → IsRereadable p → IsPacket (element_of p) (norm p)
is_read p h = is_read_as p h.sound h.readable

pub is_markup : (p : Packet) → IsRereadable p → IsMarkup (text p) (element_of p)
is_markup p h = behind_prolog declaration (element_of p) h.readable before_root
