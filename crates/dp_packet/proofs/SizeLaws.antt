-- How long what is written is, by the sizes of its parts.
use Rattle.std.proofs.Common.{◌≡◌, ℕ, ◌+◌, ◌*◌, List, [], ◌∷◌, ◌++◌, length, codes, refl, ap, ◌∙◌, arith, append-nil, length-append}
use Rattle.std.specs.List.{flat_map}
use Rattle.dp_markup.proofs.Trees.{written_is}
use Rattle.dp_markup.specs.declared.tree.Element.{Element}
use Rattle.dp_markup.specs.declared.tree.Node.{Node}
use Rattle.dp_markup.specs.Escapes.{escaped_all}
use Rattle.dp_markup.specs.Texts.{attribute_text, element_text, written, node_text, nodes_text}
use Rattle.dp_packet.specs.Parts.{Text, Attributes}
use Rattle.dp_packet.specs.declared.packet.Packet.{Packet}
use Rattle.dp_packet.specs.Packets.{element_of}
use Rattle.dp_packet.specs.Text.{declaration, text}
use Rattle.dp_packet.specs.inner.Sizes.{attribute_size, attributes_size}

pub attribute_length : (name value : Text) → length (attribute_text (name, value)) ≡ attribute_size (name, value)
attribute_length name value =
    omega (
      arith,
      length-append (name ++ codes "=\"" ++ escaped_all value) (codes "\""),
      length-append (name ++ codes "=\"") (escaped_all value),
      length-append name (codes "=\""),
    )

pub attributes_length : (attributes : Attributes)
    → length (flat_map attribute_text attributes) ≡ attributes_size attributes
attributes_length [] = refl
attributes_length (a ∷ more) =
    omega (
      arith,
      length-append (attribute_text a) (flat_map attribute_text more),
      attribute_length a.0 a.1,
      attributes_length more,
    )

element_length : (name content : Text) (attributes : Attributes)
    → length (element_text name attributes content) ≡ 5 + 2 * length name + attributes_size attributes + length content
element_length name content attributes =
    let middle : List ℕ = flat_map attribute_text attributes in
    let front : List ℕ = name ++ middle ++ codes ">" ++ content in
    omega (
      arith,
      length-append (front ++ codes "</" ++ name) (codes ">"),
      length-append (front ++ codes "</") name,
      length-append front (codes "</"),
      length-append (name ++ middle ++ codes ">") content,
      length-append (name ++ middle) (codes ">"),
      length-append name middle,
      attributes_length attributes,
    )

pub written_length : (e : Element)
    → length (written e) ≡ 5 + 2 * length e.name + attributes_size e.attributes + length (nodes_text e.children)
written_length e = ap length (written_is e) ∙ element_length e.name (nodes_text e.children) e.attributes

-- one node alone
pub alone_length : (n : Node) → length (nodes_text (n ∷ [])) ≡ length (node_text n)
alone_length n = ap length (append-nil (node_text n))

pub packet_length : (p : Packet) → length (text p) ≡ 44 + length (written (element_of p))
packet_length p = omega (arith, length-append declaration (written (element_of p)))
