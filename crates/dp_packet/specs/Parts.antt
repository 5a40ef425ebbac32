-- What elements are made of.
use Rattle.std.specs.Prelude.{Bool, true, false, List, [], ◌∷◌, ◌++◌, Option, Some, None, codes}
use Rattle.std.specs.List.{flat_map}
use Rattle.base64.specs.Engines.{standard}
use Rattle.base64.specs.GeneralPurpose.{encode_of}
use Rattle.dp_markup.specs.declared.tree.Element.{Element}
use Rattle.dp_markup.specs.declared.tree.Node.{Node}
use Rattle.dp_markup.specs.declared.tree.Node.TheVariants as node
use Rattle.dp_markup.specs.Texts.{attribute_text}
pub use Rattle.dp_markup.specs.Texts.{Text}
pub use Rattle.dp_markup.specs.Attributes.{Attributes}

abbrev pub element : Text → Attributes → List Node → Element
element name attributes children =
    record { name = name; attributes = attributes; children = children }

abbrev pub child : Text → Attributes → List Node → Node
child name attributes children = node.Child (element name attributes children)

-- a text in an element: nothing where it is empty
abbrev pub text_nodes : Text → List Node
text_nodes [] = []
text_nodes (b ∷ bytes) = node.Text (b ∷ bytes) ∷ []

-- an attribute that may be missing
abbrev pub given : Text → Option Text → Attributes
given name None = []
given name (Some value) = (name, value) ∷ []

-- an attribute that stands where something holds, and says its own name
abbrev pub mark : Text → Bool → Attributes
mark name true = (name, name) ∷ []
mark name false = []

abbrev pub flag : Bool → Text
flag true = codes "1"
flag false = codes "0"

-- the rest of a start tag behind its name
abbrev pub rest_text : Attributes → Text
rest_text attributes = flat_map attribute_text attributes ++ codes ">"

-- RFC 4648, section 4: the usual symbols, with padding
abbrev pub base64 : Text → Text
base64 bytes = encode_of standard bytes

-- which namespace DBGp's elements are of
abbrev pub namespace : Text × Text
namespace = (codes "xmlns", codes "urn:debugger_protocol_v1")
