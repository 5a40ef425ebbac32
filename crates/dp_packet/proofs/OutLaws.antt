-- For proofs: what is put in steps, and what an element's parts are as a text.
use Rattle.std.proofs.Common.{◌≡◌, ◌++◌, List, [], ◌∷◌, codes, refl, sym, ap, subst, ◌∙◌, append-nil, append_assoc}
use Rattle.std.specs.Prelude.{OnOk, Result}
use Rattle.std.specs.List.{flat_map}
use Rattle.dp_markup.proofs.OutputLaws.{behind_both}
use Rattle.dp_markup.proofs.RoundTrip.{text_node, child_node}
use Rattle.dp_markup.proofs.Trees.{written_is}
use Rattle.dp_markup.specs.declared.tree.Element.{Element}
use Rattle.dp_markup.specs.declared.tree.Node.{Node}
use Rattle.dp_markup.specs.declared.tree.Node.TheVariants as node
use Rattle.dp_markup.specs.Escapes.{escaped_all}
use Rattle.dp_markup.specs.Outputs.{Written, behind}
use Rattle.dp_markup.specs.Texts.{attribute_text, element_text, node_text, nodes_text, written}
use Rattle.dp_packet.specs.declared.attributes.Attribute.{Attribute}
use Rattle.dp_packet.specs.Parts.{Text, Attributes, element, child, text_nodes}
use Rattle.dp_packet.specs.inner.Shown.{all_shown, shown, shown_text, tag_text}

-- ---- steps

pub two_put : {A E : Type 0} (result : Result A E) (old middle new : Written) (a b : Text)
    → middle ≡ behind old a → OnOk result (new ≡ behind middle b) → OnOk result (new ≡ behind old (a ++ b))
two_put result old middle new a b first second =
    subst (λ (w : Written). OnOk result (new ≡ w)) (ap (λ (w : Written). behind w b) first ∙ behind_both old a b) second

pub three_put : {A E : Type 0} (result : Result A E) (old one two new : Written) (a b c : Text)
    → one ≡ behind old a → two ≡ behind one b → OnOk result (new ≡ behind two c)
    → OnOk result (new ≡ behind old (a ++ b ++ c))
three_put result old one two new a b c first second third =
    two_put result old two new (a ++ b) c (second ∙ ap (λ (w : Written). behind w b) first ∙ behind_both old a b) third

-- an element: its start tag, what stands in it, its end tag
in_order : (before name : Text)
    → before ++ (codes "</" ++ name ++ codes ">") ≡ before ++ codes "</" ++ name ++ codes ">"
in_order before name = simp append_assoc

pub element_put : {A E : Type 0} (result : Result A E) (old tag inside new : Written) (e : Element) (content : Text)
    → content ≡ nodes_text e.children → tag ≡ behind old (tag_text e.name e.attributes) → inside ≡ behind tag content
    → OnOk result (new ≡ behind inside (codes "</" ++ e.name ++ codes ">")) → OnOk result (new ≡ behind old (written e))
element_put result old tag inside new e content same first second third =
    subst (λ (l : Text). OnOk result (new ≡ behind old l))
    (in_order (tag_text e.name e.attributes ++ content) e.name ∙ ap (element_text e.name e.attributes) same
    ∙ sym (written_is e))
    (three_put result old tag inside new (tag_text e.name e.attributes) content (codes "</" ++ e.name ++ codes ">")
    first second third)

pub node_put : {A E : Type 0} (result : Result A E) (old tag inside new : Written) (e : Element) (content : Text)
    → content ≡ nodes_text e.children → tag ≡ behind old (tag_text e.name e.attributes) → inside ≡ behind tag content
    → OnOk result (new ≡ behind inside (codes "</" ++ e.name ++ codes ">"))
    → OnOk result (new ≡ behind old (node_text (node.Child e)))
node_put result old tag inside new e content same first second third =
    subst (λ (l : Text). OnOk result (new ≡ behind old l)) (sym (child_node e))
    (element_put result old tag inside new e content same first second third)

-- ---- texts

pub child_text : (name : Text) (attributes : Attributes) (children : List Node)
    → node_text (child name attributes children) ≡ element_text name attributes (nodes_text children)
child_text name attributes children =
    child_node (element name attributes children) ∙ written_is (element name attributes children)

-- one node alone
pub alone_text : (n : Node) → nodes_text (n ∷ []) ≡ node_text n
alone_text n = append-nil (node_text n)

-- a text alone
pub words_text : (bytes : Text) → nodes_text (text_nodes bytes) ≡ escaped_all bytes
words_text [] = refl
words_text (b ∷ bytes) = append-nil (node_text (node.Text (b ∷ bytes))) ∙ text_node (b ∷ bytes)

-- ---- attributes

pub nothing_behind : (a : Attributes) → a ++ [] ≡ a
nothing_behind a = append-nil a

-- the attributes of two lists
pub attributes_text : (a b : Attributes)
    → flat_map attribute_text (a ++ b) ≡ flat_map attribute_text a ++ flat_map attribute_text b
attributes_text [] b = refl
attributes_text (x ∷ a) b = ap (λ l. attribute_text x ++ l) (attributes_text a b) ∙ simp append_assoc

pub shown_texts : (attributes : List Attribute)
    → flat_map attribute_text (all_shown attributes) ≡ flat_map shown_text attributes
shown_texts [] = refl
shown_texts (a ∷ more) = attributes_text (shown a) (all_shown more) ∙ ap (λ l. shown_text a ++ l) (shown_texts more)
