-- How long names are where they are escaped, and how long properties are by their parts.
use Rattle.std.proofs.Common.{◌≡◌, ℕ, ℤ, ◌+◌, List, [], ◌∷◌, ◌++◌, length, codes, ap, arith, length-append}
use Rattle.std.specs.Prelude.{flat_map}
use Rattle.std.specs.Fmt.{signed_decimal}
use Rattle.dp_markup.specs.Escapes.{escaped, escaped_all}
use Rattle.dp_markup.specs.Texts.{attribute_text, node_text, nodes_text}
use Rattle.dp_packet.specs.declared.property.Property.{Property}
use Rattle.dp_packet.specs.Parts.{Attributes, Text, given, rest_text, text_nodes}
use Rattle.dp_packet.specs.Properties.{property_node}
use Rattle.dp_packet.specs.inner.Shapes.{names_of, shape_part}
use Rattle.dp_packet.specs.inner.Sizes.{attributes_size}
use Rattle.dp_packet.proofs.OutLaws.{words_text}
use Rattle.dp_packet.proofs.PropertyTexts.{property_is}
use Rattle.dp_packet.proofs.SizeLaws.{attributes_length}
use Rattle.dp_state.specs.declared.moments.Path.{Path}
use Rattle.dp_value.specs.declared.key.Key.{Key}
use Rattle.dp_bytes.specs.Quotes.{in_quotes}
use Rattle.dp_view.specs.Names.{full_name, index_of, int_index, sigil, text_index, variable_name}
use Rattle.dp_view_limits.specs.inner.Sizes.{property_frame, text_size}

-- ---- names

pub text_size-append : (a b : List ℕ) → text_size (a ++ b) ≡ text_size a + text_size b
text_size-append [] b = omega arith
text_size-append (x ∷ a) b =
    omega (
      arith,
      length-append (escaped x) (escaped_all (a ++ b)),
      length-append (escaped x) (escaped_all a),
      text_size-append a b,
    )

pub int_index_size : (n : ℤ) → text_size (int_index n) ≡ text_size (signed_decimal n) + 2
int_index_size n =
    omega (
      arith,
      text_size-append (codes "[" ++ signed_decimal n) (codes "]"),
      text_size-append (codes "[") (signed_decimal n),
    )

pub text_index_size : (bytes : List ℕ) → text_size (text_index bytes) ≡ text_size (flat_map in_quotes bytes) + 14
text_index_size bytes =
    omega (
      arith,
      text_size-append (codes "[\"" ++ flat_map in_quotes bytes) (codes "\"]"),
      text_size-append (codes "[\"") (flat_map in_quotes bytes),
    )

pub variable_name_size : (id : ℕ) (name : List ℕ)
    → text_size (variable_name id name) ≡ text_size (sigil id) + text_size name
variable_name_size id name = text_size-append (sigil id) name

pub full_name_size : (id : ℕ) (path : Path)
    → text_size (full_name id path) ≡ text_size (variable_name id path.name) + text_size (flat_map index_of path.keys)
full_name_size id path = text_size-append (variable_name id path.name) (flat_map index_of path.keys)

-- one byte, or key, before others
pub text_more : (b : ℕ) (bytes : List ℕ) → text_size (b ∷ bytes) ≡ length (escaped b) + text_size bytes
text_more b bytes = length-append (escaped b) (escaped_all bytes)

pub quoted_more : (b : ℕ) (bytes : List ℕ)
    → text_size (flat_map in_quotes (b ∷ bytes)) ≡ text_size (in_quotes b) + text_size (flat_map in_quotes bytes)
quoted_more b bytes = text_size-append (in_quotes b) (flat_map in_quotes bytes)

pub indices_more : (key : Key) (keys : List Key)
    → text_size (flat_map index_of (key ∷ keys)) ≡ text_size (index_of key) + text_size (flat_map index_of keys)
indices_more key keys = text_size-append (index_of key) (flat_map index_of keys)

-- ---- properties

attributes_append : (a b : Attributes) → attributes_size (a ++ b) ≡ attributes_size a + attributes_size b
attributes_append [] b = omega arith
attributes_append (x ∷ a) b = omega (arith, attributes_append a b)

-- a text alone
pub words_length : (bytes : Text) → length (nodes_text (text_nodes bytes)) ≡ text_size bytes
words_length bytes = ap length (words_text bytes)

pub property_length : (q : Property) → length (node_text (property_node q))
    ≡ property_frame + (attributes_size (given (codes "name") q.name) + attributes_size
    (given (codes "fullname") q.fullname) + attributes_size (shape_part q.shape).0)
    + length (nodes_text (shape_part q.shape).1)
property_length q =
    let part = shape_part q.shape in
    let names = given (codes "name") q.name in
    let full = given (codes "fullname") q.fullname in
    let front : List ℕ = codes "<property" ++ flat_map attribute_text (names_of q) ++ rest_text part.0 in
    omega (
      arith,
      ap length (property_is q),
      length-append (front ++ nodes_text part.1) (codes "</property>"),
      length-append front (nodes_text part.1),
      length-append (codes "<property" ++ flat_map attribute_text (names_of q)) (rest_text part.0),
      length-append (codes "<property") (flat_map attribute_text (names_of q)),
      length-append (flat_map attribute_text part.0) (codes ">"),
      attributes_length (names_of q),
      attributes_length part.0,
      attributes_append names full,
    )
