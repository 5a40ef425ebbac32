-- Properties as elements (DBGp 1.0, "Properties, variables and values").
use Rattle.std.specs.Prelude.{ℕ, not, ◌==◌, List, [], ◌∷◌, ◌++◌, codes, decimal}
use Rattle.std.specs.Fmt.{signed_decimal}
use Rattle.dp_markup.specs.declared.tree.Node.{Node}
use Rattle.dp_packet.specs.declared.property.Property.{Property, fold-Property}
use Rattle.dp_packet.specs.declared.property.Shape.TheOpen.{Shape-F, Property-F}
use Rattle.dp_packet.specs.declared.property.ValueKind.{ValueKind}
use Rattle.dp_packet.specs.declared.property.ValueKind.TheVariants as kind
use Rattle.dp_packet.specs.Parts.{Text, Attributes, child, text_nodes, given, flag, base64}

-- what a value adds to the attributes of its property, and what it puts between the tags
abbrev pub Part : Type 0
Part = Attributes × List Node

abbrev pub type_of : Text → Attributes
type_of name = (codes "type", name) ∷ []

abbrev pub text_attributes : ℕ → Attributes
text_attributes size =
    (codes "type", codes "string") ∷ (codes "size", decimal size)
    ∷ (codes "encoding", codes "base64") ∷ []

-- `numchildren` is the number of all entries, whatever the page
abbrev pub paging_attributes : ℕ → ℕ → ℕ → Attributes
paging_attributes count page pagesize =
    (codes "numchildren", decimal count) ∷ (codes "page", decimal page)
    ∷ (codes "pagesize", decimal pagesize) ∷ []

abbrev pub array_attributes : ℕ → ℕ → ℕ → Attributes
array_attributes count page pagesize =
    (codes "type", codes "array") ∷ (codes "children", flag (not (count == 0)))
    ∷ paging_attributes count page pagesize

-- what a start tag tells of a value
abbrev pub kind_attributes : ValueKind → Attributes
kind_attributes kind.Null = type_of (codes "null")
kind_attributes kind.Bool = type_of (codes "bool")
kind_attributes kind.Int = type_of (codes "int")
kind_attributes (kind.Text size) = text_attributes size
kind_attributes (kind.Array count page pagesize) = array_attributes count page pagesize

-- a value, where its entries are nodes already
abbrev pub value_attributes : Shape-F Part Node → Attributes
value_attributes Shape-F.Null = type_of (codes "null")
value_attributes (Shape-F.Bool b) = type_of (codes "bool")
value_attributes (Shape-F.Int i) = type_of (codes "int")
value_attributes (Shape-F.Text size front) = text_attributes size
value_attributes (Shape-F.Array count page pagesize nested) = array_attributes count page pagesize

abbrev pub value_nodes : Shape-F Part Node → List Node
value_nodes Shape-F.Null = []
value_nodes (Shape-F.Bool b) = text_nodes (flag b)
value_nodes (Shape-F.Int i) = text_nodes (signed_decimal i)
value_nodes (Shape-F.Text size front) = text_nodes (base64 front)
value_nodes (Shape-F.Array count page pagesize nested) = nested

abbrev pub value_part : Shape-F Part Node → Part
value_part s = (value_attributes s, value_nodes s)

abbrev pub property_layer : Property-F Part Node → Node
property_layer p =
    child (codes "property")
    (given (codes "name") p.name ++ given (codes "fullname") p.fullname ++ p.shape.0)
    p.shape.1

-- the element of a property, from its innermost entries up
abbrev pub property_node : Property → Node
property_node = fold-Property Part Node value_part property_layer
