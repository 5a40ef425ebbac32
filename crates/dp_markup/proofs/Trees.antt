-- The canonical text of an element, by its name, its attributes and its nodes.
use Rattle.std.proofs.Common.{◌≡◌, List, [], ◌∷◌, ◌++◌, refl, ap, ◌∙◌, map}
use Rattle.std.specs.List.{flat_map}
use Rattle.dp_markup.specs.declared.tree.Element.{Element}
use Rattle.dp_markup.specs.declared.tree.Node.{Node}
use Rattle.dp_markup.specs.declared.tree.Node.TheFolds.{fold_out-Element}
use Rattle.dp_markup.specs.Texts.{Text, element_text, node_layer, element_layer, written, node_text, nodes_text}

joined_texts : (nodes : List Node) → flat_map (λ text. text) (map node_text nodes) ≡ nodes_text nodes
joined_texts [] = refl
joined_texts (n ∷ nodes) = ap (λ l. node_text n ++ l) (joined_texts nodes)

pub written_is : (e : Element) → written e ≡ element_text e.name e.attributes (nodes_text e.children)
written_is e =
    fold_out-Element Text Text node_layer element_layer e
    ∙ ap (λ content. element_text e.name e.attributes content) (joined_texts e.children)
