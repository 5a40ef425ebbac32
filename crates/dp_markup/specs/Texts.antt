-- The canonical text of an element, without a declaration.
use Rattle.std.specs.Prelude.{List, ◌++◌, codes}
use Rattle.std.specs.List.{flat_map}
use Rattle.dp_markup.specs.declared.tree.Element.{Element, fold-Element}
use Rattle.dp_markup.specs.declared.tree.Node.{Node, fold-Node}
use Rattle.dp_markup.specs.declared.tree.Node.TheOpen.{Node-F, Element-F}
pub use Rattle.dp_grammar.specs.Texts.{Text}
use Rattle.dp_markup.specs.Attributes.{Attributes}
use Rattle.dp_markup.specs.Escapes.{escaped_all}

-- ` name="value"`
abbrev pub attribute_text : Text × Text → Text
attribute_text a = codes " " ++ a.0 ++ codes "=\"" ++ escaped_all a.1 ++ codes "\""

-- `<name ..>content</name>`, also where the content is empty
abbrev pub element_text : Text → Attributes → Text → Text
element_text name attributes content =
    codes "<" ++ name ++ flat_map attribute_text attributes ++ codes ">" ++ content
    ++ codes "</" ++ name ++ codes ">"

-- a node, where what stands in it is written already
abbrev pub node_layer : Node-F Text Text → Text
node_layer (Node-F.Text text) = escaped_all text
node_layer (Node-F.Child child) = child

abbrev pub element_layer : Element-F Text Text → Text
element_layer e = element_text e.name e.attributes (flat_map (λ node. node) e.children)

-- the canonical text of a tree, from its leaves up
abbrev pub written : Element → Text
written = fold-Element Text Text node_layer element_layer

abbrev pub node_text : Node → Text
node_text = fold-Node Text Text node_layer element_layer

abbrev pub nodes_text : List Node → Text
nodes_text nodes = flat_map node_text nodes
