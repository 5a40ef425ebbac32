-- How long what is written is at most.
use Rattle.std.proofs.Common.{◌≡◌, ℕ, ◌+◌, ◌*◌, ◌/◌, ◌%◌, ◌≤◌, ltb, ◌&&◌, Bool, true, false, cond, eqb, List, [], ◌∷◌, ◌++◌, length, codes, sym, ◌∙◌, subst, arith, append-nil, length-append}
use Rattle.std.specs.List.{flat_map}
use Rattle.std.specs.Fmt as fmt
use Rattle.dp_markup.proofs.RoundTrip.{text_node, child_node}
use Rattle.dp_markup.proofs.Trees.{written_is}
use Rattle.dp_markup.specs.declared.tree.Element.{Element}
use Rattle.dp_markup.specs.declared.tree.Node.TheVariants as node
use Rattle.dp_markup.specs.Escapes.{decimal, plain_or_number, escaped, escaped_all}
use Rattle.dp_markup.specs.Texts.{attribute_text, element_text, written, node_text, nodes_text}
use Rattle.dp_packet.specs.declared.packet.Packet.{Packet}
use Rattle.dp_packet.specs.declared.packet.Packet.TheVariants as packet
use Rattle.dp_packet.specs.declared.packet.Body.TheVariants as body
use Rattle.dp_packet.specs.Messages.{message_of}
use Rattle.dp_packet.specs.Packets.{element_of, message_node}
use Rattle.dp_packet.specs.Parts.{Attributes, element, text_nodes, namespace}
use Rattle.dp_packet.specs.Text.{declaration, text}
use Rattle.dp_packet.specs.Uris.{stands_for_itself, hexadecimal, encoded, file_uri}
use Rattle.dp_bytes.specs.Names.{without_slash}

append_short : (a b : List ℕ) (m n : ℕ) → length a ≤ m → length b ≤ n → length (a ++ b) ≤ m + n
append_short a b m n p q = omega (arith, p, q, length-append a b)

-- pieces of which none is longer than this
pub pieces_short : (most : ℕ) (f : ℕ → List ℕ) → ((b : ℕ) → length (f b) ≤ most) → (bytes : List ℕ)
    → length (flat_map f bytes) ≤ most * length bytes
pieces_short most f short [] = omega arith
pieces_short most f short (b ∷ bytes) =
    let more : most * length (b ∷ bytes) ≡ most + most * length bytes = grind arith in
    let whole = append_short (f b) (flat_map f bytes) most (most * length bytes) (short b)
    (pieces_short most f short bytes) in
    omega (arith, more, whole)

-- ---- bytes as they are written

three : (s t : Bool) (a b c d e f : ℕ) → length (cond s (a ∷ []) (cond t (b ∷ c ∷ []) (d ∷ e ∷ f ∷ []))) ≤ 3
three true t a b c d e f = omega arith
three false true a b c d e f = omega arith
three false false a b c d e f = omega arith

decimal_short : (b : ℕ) → length (decimal b) ≤ 3
decimal_short b = three (ltb b 10) (ltb b 100) _ _ _ _ _ _

number_short : (b : ℕ) → length (plain_or_number b) ≤ 6
number_short b = go (ltb 31 b && ltb b 127) where
  go : (t : Bool) → length (cond t (b ∷ []) (codes "&#" ++ decimal b ++ codes ";")) ≤ 6
  go true = omega arith
  go false =
      append_short (codes "&#") (decimal b ++ codes ";") 2 4 (omega arith)
      (append_short (decimal b) (codes ";") 3 1 (decimal_short b) (omega arith))

marked : (t u v w x : Bool) (rest : List ℕ) → length rest ≤ 6
    → length (cond t (codes "&amp;") (cond u (codes "&lt;") (cond v (codes "&gt;")
    (cond w (codes "&quot;") (cond x (codes "&#39;") rest))))) ≤ 6
marked true u v w x rest p = omega arith
marked false true v w x rest p = omega arith
marked false false true w x rest p = omega arith
marked false false false true x rest p = omega arith
marked false false false false true rest p = omega arith
marked false false false false false rest p = p

pub escaped_short : (b : ℕ) → length (escaped b) ≤ 6
escaped_short b = marked (eqb b 38) (eqb b 60) (eqb b 62) (eqb b 34) (eqb b 39) (plain_or_number b) (number_short b)

-- ---- URIs

encoded_short : (b : ℕ) → length (encoded b) ≤ 3
encoded_short b = go (stands_for_itself b) where
  go : (t : Bool) → length (cond t (b ∷ []) (37 ∷ hexadecimal (b / 16) ∷ hexadecimal (b % 16) ∷ [])) ≤ 3
  go true = omega arith
  go false = omega arith

rest_short : (name : List ℕ) → length (without_slash name) ≤ length name
rest_short [] = omega arith
rest_short (b ∷ name) = go (eqb b 47) where
  go : (t : Bool) → length (cond t name (b ∷ name)) ≤ length (b ∷ name)
  go true = omega arith
  go false = omega arith

pub uri_short : (name : List ℕ) → length (file_uri name) ≤ 8 + 3 * length name
unfolding file_uri
uri_short name =
    let path = pieces_short 3 encoded encoded_short (without_slash name) in
    let whole : length (file_uri name) ≤ 8 + 3 * length (without_slash name) = append_short (codes "file:///")
    (flat_map encoded (without_slash name)) 8 _ (omega arith) path in
    omega (arith, whole, rest_short name)

-- ---- elements

-- what attributes take at most
abbrev pub weight : Attributes → ℕ
weight [] = 0
weight (a ∷ attributes) = 4 + length a.0 + 6 * length a.1 + weight attributes

pub attribute_short : (name value : List ℕ) → length (attribute_text (name, value)) ≤ 4 + length name + 6 * length value
attribute_short name value =
    let whole : length (attribute_text (name, value)) ≤ 1 + length name + 2 + 6 * length value + 1 =
    append_short (codes " " ++ name ++ codes "=\"" ++ escaped_all value) (codes "\"") _ 1
    (append_short (codes " " ++ name ++ codes "=\"") (escaped_all value) _ (6 * length value)
    (append_short (codes " "
    ++ name) (codes "=\"") _ 2 (append_short (codes " ") name 1 (length name) (omega arith) (omega arith))
    (omega arith))
    (pieces_short 6 escaped escaped_short value))
    (omega arith) in
    omega (arith, whole)

pub attributes_short : (attributes : Attributes) → length (flat_map attribute_text attributes) ≤ weight attributes
attributes_short [] = omega arith
attributes_short (a ∷ attributes) =
    append_short (attribute_text a) (flat_map attribute_text attributes) (4 + length a.0 + 6 * length a.1)
    (weight attributes) (attribute_short a.0 a.1) (attributes_short attributes)

element_short : (name content : List ℕ) (attributes : Attributes) (most : ℕ) → length content ≤ most
    → length (element_text name attributes content) ≤ 5 + 2 * length name + weight attributes + most
element_short name content attributes most within =
    let tag : List ℕ = codes "<" ++ name ++ flat_map attribute_text attributes in
    let start : length tag ≤ 1 + length name + weight attributes =
    append_short (codes "<" ++ name) (flat_map attribute_text attributes) _ (weight attributes)
    (append_short (codes "<") name 1 (length name) (omega arith) (omega arith)) (attributes_short attributes) in
    let inside : length (tag ++ codes ">" ++ content) ≤ 1 + length name + weight attributes + 1 + most =
    append_short (tag ++ codes ">") content _ most (append_short tag (codes ">") _ 1 start (omega arith)) within in
    let whole : length (element_text name attributes content) ≤ 1 + length name + weight attributes + 1 + most + 2 +
    length name + 1 =
    append_short (tag ++ codes ">" ++ content ++ codes "</" ++ name) (codes ">") _ 1
    (append_short (tag ++ codes ">" ++ content ++ codes "</") name _ (length name)
    (append_short (tag ++ codes ">" ++ content) (codes "</") _ 2 inside (omega arith)) (omega arith))
    (omega arith) in
    omega (arith, whole)

pub written_short : (e : Element) (most : ℕ) → length (nodes_text e.children) ≤ most
    → length (written e) ≤ 5 + 2 * length e.name + weight e.attributes + most
written_short e most within =
    subst (λ (l : List ℕ). length l ≤ 5 + 2 * length e.name + weight e.attributes + most) (sym (written_is e))
    (element_short e.name (nodes_text e.children) e.attributes most within)

-- one child alone
pub child_short : (e : Element) (most : ℕ) → length (written e) ≤ most → length (nodes_text (node.Child e ∷ [])) ≤ most
child_short e most within =
    subst (λ (l : List ℕ). length l ≤ most) (sym (append-nil (node_text (node.Child e)) ∙ child_node e)) within

-- a text alone
pub text_short : (bytes : List ℕ) → length (nodes_text (text_nodes bytes)) ≤ 6 * length bytes
text_short [] = omega arith
text_short (b ∷ bytes) =
    subst (λ (l : List ℕ). length l ≤ 6 * length (b ∷ bytes))
    (sym (append-nil (node_text (node.Text (b ∷ bytes))) ∙ text_node (b ∷ bytes)))
    (pieces_short 6 escaped escaped_short (b ∷ bytes))

-- ---- packets

pub packet_short : (p : Packet) (most : ℕ) → length (written (element_of p)) ≤ most → length (text p) ≤ 44 + most
packet_short p most within = append_short declaration (written (element_of p)) 44 most (omega arith) within

pub packet_some : (p : Packet) → 1 ≤ length (text p)
packet_some p = omega (arith, length-append declaration (written (element_of p)))

-- a response without children
pub bare_response_short : (command id : List ℕ) (attributes : Attributes)
    → length (text (packet.Response (record {
      command = command;
      id = id;
      attributes = attributes;
      body = body.Nothing;
    })))
    ≤ 65 + weight (namespace ∷ (codes "command", command) ∷ (codes "transaction_id", id) ∷ attributes)
bare_response_short command id attributes =
    let p : Packet = packet.Response (record {
      command = command;
      id = id;
      attributes = attributes;
      body = body.Nothing;
    }) in
    let whole = packet_short p _ (written_short (element_of p) 0 (omega arith)) in
    omega (arith, whole)

-- a response that tells an error
pub fault_short : (command id : List ℕ) (attributes : Attributes) (code : ℕ)
    → length (text (packet.Response (record {
      command = command;
      id = id;
      attributes = attributes;
      body = body.Fault
          code;
    })))
    ≤ 65 + weight (namespace ∷ (codes "command", command) ∷ (codes "transaction_id", id) ∷ attributes) +
    (15 + weight ((codes "code", fmt.decimal code) ∷ []) + (19 + 6 * length (message_of code)))
fault_short command id attributes code =
    let p : Packet = packet.Response (record {
      command = command;
      id = id;
      attributes = attributes;
      body = body.Fault
          code;
    }) in
    let message : Element = element (codes "message") [] (text_nodes (message_of code)) in
    let error : Element = element (codes "error") ((codes "code", fmt.decimal code) ∷ [])
    (message_node (message_of code) ∷ []) in
    let inner = written_short message (6 * length (message_of code)) (text_short (message_of code)) in
    let outer = written_short error (19 + 6 * length (message_of code)) (child_short message _ inner) in
    let whole = packet_short p _ (written_short (element_of p)
    (15 + weight ((codes "code", fmt.decimal code) ∷ []) + (19 + 6 * length (message_of code)))
    (child_short error _ outer)) in
    omega (arith, whole)

pub init_short : (idekey fileuri : List ℕ)
    → length (text (packet.Init (record { idekey = idekey; fileuri = fileuri }))) ≤ 539 + 6 * length idekey + 6 * length
    fileuri
init_short idekey fileuri =
    let p : Packet = packet.Init (record { idekey = idekey; fileuri = fileuri }) in
    let whole = packet_short p _ (written_short (element_of p) 0 (omega arith)) in
    omega (arith, whole)
