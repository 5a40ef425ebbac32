-- The markup that is read: XML 1.0 without document types, names beyond ASCII and further entities.
use Rattle.std.specs.Prelude.{◌≡◌, ℕ, zero, suc, Bool, true, false, not, ◌&&◌, ◌==◌, if◌then◌else◌, List, [], ◌∷◌, ◌++◌, Option, Some, None, codes}
use Rattle.std.specs.List.{list_any}
use Rattle.dp_markup.specs.declared.tree.Element.{Element}
use Rattle.dp_markup.specs.declared.tree.Node.{Node}
use Rattle.dp_markup.specs.declared.tree.Node.TheVariants as node
use Rattle.dp_markup.specs.declared.states.Tag.{Tag}
use Rattle.dp_markup.specs.declared.states.StartTag.{StartTag}
use Rattle.dp_markup.specs.declared.states.Content.{Content}
pub use Rattle.dp_grammar.specs.Texts.{Text}
pub use Rattle.dp_markup.specs.Attributes.{Attributes}
use Rattle.dp_markup.specs.Rules.{Rule, ◌>>=◌, ◌>>◌, ◌or◌, Gives, Made, One, passing, Mark, Word, Tested, When, Closed}
use Rattle.dp_markup.specs.Classes.{is_white, is_name, is_plain_in_text, is_plain_in_value, is_quote, decimal_behind, hexadecimal_behind}

abbrev pub White : Rule ℕ
White = One (passing is_white)

-- white space, any amount of it, and then
abbrev pub Spaced : {A : Type 0} → Rule A → Rule A
Spaced rule = Closed (λ (u : Unit {0}). Made White (λ _. tt)) (λ _. rule) tt

pub record Name (text name : Text) : Type 0 where
  pub same : text ≡ name
  pub is_name : is_name name ≡ true

-- ---- references

-- digits, each within 255 with those before, and `;`
abbrev pub Number : (ℕ → ℕ → Option ℕ) → Rule ℕ
Number behind =
    One (behind 0) >>= (λ first. Closed (λ n. One (behind n)) (λ n. Made (Mark 59) (λ _. n)) first)

abbrev pub Named : Text → ℕ → Rule ℕ
Named text byte = Made (Word text) (λ _. byte)

abbrev pub Reference : Rule ℕ
Reference =
    Named (codes "&amp;") 38
    or Named (codes "&lt;") 60
    or Named (codes "&gt;") 62
    or Named (codes "&quot;") 34
    or Named (codes "&apos;") 39
    or (Word (codes "&#x") >> Number hexadecimal_behind)
    or (Word (codes "&#") >> Number decimal_behind)

-- ---- start tags

-- bytes and references between two quotes of a kind
abbrev pub Value : Rule Text
Value = do
  quote ← One (passing is_quote)
  let byte : Rule ℕ = Reference or One (passing (is_plain_in_value quote)) in
      Closed (λ v. Made byte (λ b. v ++ b ∷ [])) (λ v. Made (Mark quote) (λ _. v)) []

abbrev pub same_text : Text → Text → Bool
same_text [] [] = true
same_text [] (c ∷ cs) = false
same_text (b ∷ bs) [] = false
same_text (b ∷ bs) (c ∷ cs) = b == c && same_text bs cs

-- no attribute has this name yet
abbrev pub is_new : Attributes → Text → Bool
is_new found name = not (list_any (λ a. same_text a.0 name) found)

-- a new name, `=`, a value
abbrev pub Attribute : Attributes → Rule Attributes
Attribute found = do
  name ← Tested Name (is_new found)
  Spaced (Mark 61)
  value ← Spaced Value
  Gives (found ++ (name, value) ∷ [])

abbrev pub white_in_tag : Tag → Tag
white_in_tag t = record { found = t.found; apart = true }

abbrev pub attribute_in_tag : Attributes → Tag
attribute_in_tag found = record { found = found; apart = false }

-- white space, or, directly behind white space, an attribute
abbrev pub TagPiece : Tag → Rule Tag
TagPiece t =
    Made White (λ _. white_in_tag t) or When t.apart (Made (Attribute t.found) attribute_in_tag)

abbrev pub start_tag : Text → Bool → Tag → StartTag
start_tag name is_empty t = record { name = name; attributes = t.found; is_empty = is_empty }

-- `>`, or `/>` of an empty element
abbrev pub TagEnd : Text → Tag → Rule StartTag
TagEnd name t =
    Made (Mark 62) (λ _. start_tag name false t) or Made (Word (codes "/>"))
    (λ _. start_tag name true t)

abbrev pub no_attribute : Tag
no_attribute = record { found = []; apart = false }

-- a start tag behind its `<`
abbrev pub Start : Rule StartTag
Start = do
  name ← Name
  Closed TagPiece (TagEnd name) no_attribute

-- ---- what stands between the tags

-- the mark stands at the front
abbrev pub is_front_of : Text → Text → Bool
is_front_of [] text = true
is_front_of (m ∷ mark) [] = false
is_front_of (m ∷ mark) (b ∷ text) = m == b && is_front_of mark text

-- where the mark stands behind the bytes, it begins at none of them
abbrev pub IsFree : Text → Text → Type 0
IsFree mark [] = Unit {0}
IsFree mark (b ∷ bytes) = (is_front_of mark ((b ∷ bytes) ++ mark) ≡ false) × IsFree mark bytes

-- bytes up to the first place where the mark stands, and the mark
pub record UpTo (mark : Text) (text bytes : Text) : Type 0 where
  pub split : text ≡ bytes ++ mark
  pub first : IsFree mark bytes

abbrev pub CData : Rule Text
CData = Word (codes "<![CDATA[") >> UpTo (codes "]]>")

abbrev pub Comment : Rule Text
Comment = Word (codes "<!--") >> UpTo (codes "-->")

abbrev pub no_content : Content
no_content = record { nodes = []; run = [] }

-- The bytes go to the text that is not ended yet: what touches is one text.
abbrev pub with_bytes : Content → Text → Content
with_bytes c bytes = record { nodes = c.nodes; run = c.run ++ bytes }

-- the text that is ended, if there is one, is a node
abbrev pub with_run : List Node → Text → List Node
with_run nodes [] = nodes
with_run nodes (b ∷ bytes) = nodes ++ node.Text (b ∷ bytes) ∷ []

abbrev pub nodes_of : Content → List Node
nodes_of c = with_run c.nodes c.run

abbrev pub with_child : Content → Element → Content
with_child c e = record { nodes = nodes_of c ++ node.Child e ∷ []; run = [] }

-- a reference, a byte, a CDATA section, or an element
abbrev pub ContentPiece : Rule Element → Content → Rule Content
ContentPiece inner c =
    Made (Reference or One (passing is_plain_in_text)) (λ b. with_bytes c (b ∷ []))
    or Made CData (with_bytes c)
    or Made (Mark 60 >> inner) (with_child c)

abbrev pub EndTag : Text → Content → Rule (List Node)
EndTag name c = Made (Word (codes "</") >> (Word name >> Spaced (Mark 62))) (λ _. nodes_of c)

abbrev pub element : StartTag → List Node → Element
element tag nodes = record { name = tag.name; attributes = tag.attributes; children = nodes }

abbrev pub BehindStart : Rule Element → Bool → StartTag → Rule Element
BehindStart inner true tag = Gives (element tag [])
BehindStart inner false tag =
    Made (Closed (ContentPiece inner) (EndTag tag.name) no_content) (element tag)

-- an element behind its `<`, where `inner` is such an element one level deeper
abbrev pub Opened : Rule Element → Rule Element
Opened inner = do
  tag ← Start
  BehindStart inner tag.is_empty tag

-- an element behind its `<` with at most so many levels of elements
abbrev pub IsOpened : ℕ → Rule Element
IsOpened zero = λ text e. ⊥
IsOpened (suc level) = Opened (IsOpened level)

-- ---- whole texts

abbrev pub Misc : Rule (Unit {0})
Misc = Made White (λ _. tt) or Made Comment (λ _. tt)

abbrev pub Declaration : Rule Text
Declaration = Word (codes "<?xml") >> (White >> UpTo (codes "?>"))

-- white space and comments, and a declaration at the very first byte
abbrev pub PrologPiece : Bool → Rule Bool
PrologPiece at_first = Made Misc (λ _. false) or When at_first (Made Declaration (λ _. false))

-- what stands before the root, and the root's `<`
abbrev pub Prolog : Rule ℕ
Prolog = Closed PrologPiece (λ _. Mark 60) true

abbrev pub Document : ℕ → Rule Element
Document level = do
  Prolog
  root ← IsOpened level
  Closed (λ e. Made Misc (λ _. e)) (λ e. Gives e) root

-- at most so many elements are open at a place
unfoldable pub limit : ℕ
limit = 64

-- the bytes are a markup of the element
abbrev pub IsMarkup : Text → Element → Type 0
IsMarkup = Document limit

-- the bytes are a text as far as the end of the root's start tag
abbrev pub Head : Rule StartTag
Head = do
  Prolog
  Start

-- the bytes begin so, whatever is behind
pub record BeginsWithHead (text : Text) (tag : StartTag) : Type 0 where
  pub front : Text
  pub back : Text
  pub split : text ≡ front ++ back
  pub spelled : Head front tag

-- the same at each level: nesting plays no part in a head
abbrev pub heads : ℕ → Rule StartTag
heads level = BeginsWithHead

-- the value of the attribute with this name
abbrev pub value_of : Attributes → Text → Option Text
value_of [] name = None
value_of (a ∷ found) name = if same_text a.0 name then Some a.1 else value_of found name

-- the same, where the root has the name that is asked for
abbrev pub root_value : StartTag → Text → Text → Option Text
root_value tag root name = if same_text tag.name root then value_of tag.attributes name else None
