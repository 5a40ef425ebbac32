-- What stands between the tags of an element that is written.
use Rattle.std.proofs.Common.{◌≡◌, false, List, [], ◌∷◌, ◌++◌, Option, Some, refl, ap, sym, ◌∙◌, map}
use Rattle.std.proofs.lemmas.List.{append-nil}
use Rattle.std.specs.List.{AllByRecursion}
use denote.Hole.Carrier.{out}
use Rattle.dp_markup.specs.declared.tree.Element.{Element}
use Rattle.dp_markup.specs.declared.tree.Node.TheVariants as node
use Rattle.dp_markup.specs.declared.tree.Node.TheOpen.{Node-F}
use Rattle.dp_markup.specs.declared.tree.Node.TheViews.{out-Node, out-roll-Node}
use Rattle.dp_packet.specs.Parts.{Text, text_nodes}
use Rattle.dp_reply.specs.Contents.{◌>>=◌, each, words_of, elements_of, words, elements, is_foreign}

pub out_text : (t : Text) → out-Node (node.Text t) ≡ Node-F.Text t
unfolding out-Node out
out_text t = refl

pub out_child : (e : Element) → out-Node (node.Child e) ≡ Node-F.Child e
out_child e = ap out-Node (sym (node.rolls-Child e)) ∙ out-roll-Node (Node-F.Child e)

-- ---- a text

pub words_text : (t : Text) → words (text_nodes t) ≡ t
words_text [] = refl
words_text (b ∷ t) = ap (λ v. words_of v ++ []) (out_text (b ∷ t)) ∙ append-nil (b ∷ t)

pub elements_text : (t : Text) → elements (text_nodes t) ≡ []
elements_text [] = refl
elements_text (b ∷ t) = ap (λ v. elements_of v ++ []) (out_text (b ∷ t))

-- ---- elements

module _ {A : Type 0} (f : A → Element) (own : (a : A) → is_foreign (f a).name ≡ false) where
  pub words_none : (all : List A) → words (map (λ a. node.Child (f a)) all) ≡ []
  words_none [] = refl
  words_none (a ∷ all) =
      ap (λ v. words_of v ++ words (map (λ a. node.Child (f a)) all)) (out_child (f a)) ∙ words_none all

  here : (a : A) → elements_of (out-Node (node.Child (f a))) ≡ f a ∷ []
  here a = ap elements_of (out_child (f a)) ∙ rw (own a) refl

  pub elements_all : (all : List A) → elements (map (λ a. node.Child (f a)) all) ≡ map f all
  elements_all [] = refl
  elements_all (a ∷ all) =
      ap (λ first. first ++ elements (map (λ a. node.Child (f a)) all)) (here a)
      ∙ ap (λ rest. f a ∷ rest) (elements_all all)

pub each_is : {A : Type 0} (read : Element → Option A) (f : A → Element) (all : List A)
    → AllByRecursion (λ a. read (f a) ≡ Some a) all → each read (map f all) ≡ Some all
each_is read f [] is = refl
each_is read f (a ∷ all) is =
    ap (λ first. first >>= λ b. each read (map f all) >>= λ rest. Some (b ∷ rest)) is.0
    ∙ ap (λ found. found >>= λ rest. Some (a ∷ rest)) (each_is read f all is.1)
