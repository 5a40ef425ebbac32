-- What is found in an element that is read: numbers, texts, attributes and elements.
use Rattle.std.specs.Prelude.{ℕ, Bool, true, false, ◌||◌, ◌==◌, if◌then◌else◌, List, [], ◌∷◌, Option, Some, None, codes, flat_map}
use Rattle.std.specs.List.{list_any}
use Rattle.base64.specs.Engines.{standard}
use Rattle.base64.specs.GeneralPurpose.{decoded_of}
use Rattle.dp_bytes.specs.Decimals.{decimal_in}
use Rattle.dp_markup.specs.declared.tree.Element.{Element}
use Rattle.dp_markup.specs.declared.tree.Node.{Node}
use Rattle.dp_markup.specs.declared.tree.Node.TheOpen.{Node-F}
use Rattle.dp_markup.specs.declared.tree.Node.TheViews.{out-Node}
use Rattle.dp_markup.specs.Grammar.{same_text, is_front_of, value_of}
use Rattle.dp_packet.specs.Parts.{Text}
pub use Rattle.dp_grammar.specs.Prefixes.{◌>>=◌}

-- ---- what may be missing

-- what each of them is, where each is one
abbrev pub each : {A B : Type 0} → (A → Option B) → List A → Option (List B)
each f [] = Some []
each f (a ∷ rest) = do
  b ← f a
  bs ← each f rest
  Some (b ∷ bs)

-- ---- what a text says

-- the greatest numbers of 8, 16, 32 and 64 bits
abbrev pub most_8 : ℕ
most_8 = 255

abbrev pub most_16 : ℕ
most_16 = 65535

abbrev pub most_32 : ℕ
most_32 = 4294967295

abbrev pub most_64 : ℕ
most_64 = 18446744073709551615

abbrev pub flag_in : Text → Option Bool
flag_in text =
    if same_text text (codes "0") then Some false
    else if same_text text (codes "1") then Some true
    else None

-- what the text is in base64 of RFC 4648, section 4, with padding and no bit to spare
abbrev pub bytes_in : Text → Option Text
bytes_in text = decoded_of standard text

-- ---- attributes

abbrev pub attribute : Text → Element → Option Text
attribute name e = value_of e.attributes name

abbrev pub number_at : Text → ℕ → Element → Option ℕ
number_at name most e = attribute name e >>= decimal_in most

-- a number that may be missing, but is one where the attribute stands
abbrev pub optional_number : ℕ → Option Text → Option (Option ℕ)
optional_number most None = Some None
optional_number most (Some text) = decimal_in most text >>= λ n. Some (Some n)

abbrev pub is_named : Text → Element → Bool
is_named name e = same_text e.name name

-- what declares a namespace: `xmlns`, or what begins with `xmlns:`
abbrev pub is_namespace : Text → Bool
is_namespace name = same_text name (codes "xmlns") || is_front_of (codes "xmlns:") name

-- ---- what stands between the tags

-- A name with a `:` is of another namespace than DBGp's.
abbrev pub is_foreign : Text → Bool
is_foreign name = list_any (λ b. b == 58) name

abbrev pub words_of : Node-F Node Element → Text
words_of (Node-F.Text text) = text
words_of (Node-F.Child e) = []

abbrev pub elements_of : Node-F Node Element → List Element
elements_of (Node-F.Text text) = []
elements_of (Node-F.Child e) = if is_foreign e.name then [] else e ∷ []

-- all texts, joined
abbrev pub words : List Node → Text
words nodes = flat_map (λ n. words_of (out-Node n)) nodes

-- all elements but those of other namespaces
abbrev pub elements : List Node → List Element
elements nodes = flat_map (λ n. elements_of (out-Node n)) nodes

abbrev pub is_empty : {A : Type 0} → List A → Bool
is_empty [] = true
is_empty (a ∷ rest) = false

abbrev pub alone : {A B : Type 0} → List A → B → Option B
alone [] b = Some b
alone (a ∷ rest) b = None

-- the text, where no element stands beside it
abbrev pub text_in : Element → Option Text
text_in e = alone (elements e.children) (words e.children)

-- the elements, where no text stands beside them
abbrev pub elements_in : Element → Option (List Element)
elements_in e = alone (words e.children) (elements e.children)

-- the only one, or that there is none
abbrev pub only : {A : Type 0} → List A → Option (Option A)
only [] = Some None
only (a ∷ []) = Some (Some a)
only (a ∷ other ∷ rest) = None

-- the only element, or nothing at all
abbrev pub only_in : Element → Option (Option Element)
only_in e = elements_in e >>= only
