-- For proofs: the text of a property, by its start tag and what stands in it.
use Rattle.std.proofs.Common.{◌≡◌, ◌++◌, ℕ, ℤ, Bool, refl, ap, ◌∙◌, append_assoc, codes}
use Rattle.std.specs.Fmt.{signed_decimal}
use Rattle.dp_markup.specs.Escapes.{escaped_all}
use Rattle.dp_markup.specs.Texts.{element_text, node_text, nodes_text}
use Rattle.dp_packet.specs.declared.property.Property.{Property}
use Rattle.dp_packet.specs.declared.property.Shape.{Shape}
use Rattle.dp_packet.specs.declared.property.Shape.TheFolds.{fold_out-Property}
use Rattle.dp_packet.specs.declared.property.Shape.TheOpen.{Shape-F}
use Rattle.dp_packet.specs.declared.property.Shape.TheVariants as shape
use Rattle.dp_markup.specs.declared.tree.Node.{Node}
use Rattle.dp_packet.specs.Parts.{Attributes, Text, base64, flag, text_nodes}
use Rattle.dp_packet.specs.Properties.{Part, property_layer, property_node, value_part}
use Rattle.dp_packet.specs.inner.Shapes.{front_text, names_of, property_text, shape_part}
use Rattle.dp_packet.proofs.OutLaws.{attributes_text, child_text, words_text}
use Rattle.dp_packet.proofs.PropertyLaws.{bool_part, int_part, text_part}

-- the attributes of a start tag in two parts
in_parts : (names more : Attributes) (content : Text)
    → element_text (codes "property") (names ++ more) content
    ≡ front_text names more ++ content ++ codes "</property>"
in_parts names more content =
    ap (λ (tag : Text). codes "<" ++ codes "property" ++ tag ++ codes ">" ++ content ++ codes "</"
    ++ codes "property" ++ codes ">") (attributes_text names more)
    ∙ simp append_assoc

pub property_is : (p : Property) → node_text (property_node p) ≡ property_text p
property_is p =
    ap node_text (fold_out-Property Part Node value_part property_layer p)
    ∙ child_text (codes "property") (names_of p ++ (shape_part p.shape).0) (shape_part p.shape).1
    ∙ in_parts (names_of p) (shape_part p.shape).0 (nodes_text (shape_part p.shape).1)

-- what stands between the tags of a property whose value is shown by a text
words_are : (s : Shape) (part : Part) (bytes : Text) → shape_part s ≡ part → part.1 ≡ text_nodes bytes
    → nodes_text (shape_part s).1 ≡ escaped_all bytes
words_are s part bytes e f = ap (λ (p : Part). nodes_text p.1) e ∙ ap nodes_text f ∙ words_text bytes

pub bool_text : (s : Shape) (b : Bool) → s ≡ shape.Bool b → nodes_text (shape_part s).1 ≡ escaped_all (flag b)
bool_text s b e = words_are s (value_part (Shape-F.Bool b)) (flag b) (ap shape_part e ∙ bool_part b) refl

pub int_text : (s : Shape) (i : ℤ) → s ≡ shape.Int i
    → nodes_text (shape_part s).1 ≡ escaped_all (signed_decimal i)
int_text s i e = words_are s (value_part (Shape-F.Int i)) (signed_decimal i) (ap shape_part e ∙ int_part i) refl

pub front_is : (s : Shape) (size : ℕ) (front : Text) → s ≡ shape.Text size front
    → nodes_text (shape_part s).1 ≡ escaped_all (base64 front)
front_is s size front e =
    words_are s (value_part (Shape-F.Text size front)) (base64 front) (ap shape_part e ∙ text_part size front) refl
