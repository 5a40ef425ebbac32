-- The reading of markup, step by step: each function of the code has one of these as its result.
use Rattle.std.specs.Prelude.{ℕ, zero, suc, ◌+◌, Bool, true, false, ◌||◌, ◌==◌, if◌then◌else◌, List, [], ◌∷◌, ◌++◌, length, take, drop, Option, Some, None, Ok, Err, codes}
use Rattle.std.specs.List.{prefix_len}
use Rattle.std.specs.Option.{option_map}
use Rattle.std.specs.declared.ops.ControlFlow.{ControlFlow}
use Rattle.std.specs.declared.ops.ControlFlow.TheVariants.{Continue, Break}
use Rattle.dp_grammar.specs.declared.refusal.Refusal.TheVariants.{Unexpected, TooDeep}
use Rattle.dp_markup.specs.declared.tree.Element.{Element}
use Rattle.dp_markup.specs.declared.tree.Node.{Node}
use Rattle.dp_markup.specs.declared.states.Tag.{Tag}
use Rattle.dp_markup.specs.declared.states.StartTag.{StartTag}
use Rattle.dp_markup.specs.declared.states.Content.{Content}
use Rattle.dp_markup.specs.declared.states.Radix.{Radix}
use Rattle.dp_markup.specs.declared.states.Radix.TheVariants.{Decimal, Hexadecimal}
use Rattle.dp_markup.specs.Rules.{passing}
use Rattle.dp_markup.specs.inner.Input.{head, next, Reader, ◌>>=◌, ◌>>◌, gives, made, refuse, one, mark, word, tested, closed}
use Rattle.dp_markup.specs.Classes.{is_white, is_name_start, is_name_byte, is_plain_in_text, is_plain_in_value, is_quote, decimal_behind, hexadecimal_behind}
use Rattle.dp_markup.specs.Grammar.{Text, Attributes, is_new, white_in_tag, attribute_in_tag, start_tag, no_attribute, is_front_of, no_content, with_bytes, nodes_of, with_child, element}

abbrev pub same : ℕ → ℕ → Bool
same c b = b == c

unfoldable pub name : Reader Text
name ts =
    if next is_name_start (head ts)
    then Ok (take (prefix_len is_name_byte ts) ts, drop (prefix_len is_name_byte ts) ts)
    else refuse ts

-- ---- white space, and then

unfoldable pub spaced_mark_step : ℕ → Unit {0} → Reader (ControlFlow ℕ (Unit {0}))
spaced_mark_step c u ts =
    if next (same c) (head ts) then made (mark c) Break ts
    else made (made (one (passing is_white)) (λ _. tt)) Continue ts

unfoldable pub spaced_mark : ℕ → Reader ℕ
spaced_mark c = closed (spaced_mark_step c) tt

-- ---- references

unfoldable pub number_step : (ℕ → ℕ → Option ℕ) → ℕ → Reader (ControlFlow ℕ ℕ)
number_step behind n ts =
    if next (same 59) (head ts) then made (made (mark 59) (λ _. n)) Break ts
    else made (one (behind n)) Continue ts

unfoldable pub number : (ℕ → ℕ → Option ℕ) → Reader ℕ
number behind = one (behind 0) >>= closed (number_step behind)

unfoldable pub named : Text → ℕ → Reader ℕ
named text byte = made (word text) (λ _. byte)

-- what a digit makes of the number before it
abbrev pub behind_of : Radix → ℕ → ℕ → Option ℕ
behind_of Decimal = decimal_behind
behind_of Hexadecimal = hexadecimal_behind

unfoldable pub by_number : Reader ℕ
by_number ts =
    if next (same 120) (head ts) then (mark 120 >> number hexadecimal_behind) ts
    else number decimal_behind ts

unfoldable pub by_a : Reader ℕ
by_a ts =
    if next (same 109) (head ts) then named (codes "mp;") 38 ts else named (codes "pos;") 39 ts

unfoldable pub entity : Reader ℕ
entity ts =
    if next (same 35) (head ts) then (mark 35 >> by_number) ts
    else if next (same 97) (head ts) then (mark 97 >> by_a) ts
    else if next (same 108) (head ts) then named (codes "lt;") 60 ts
    else if next (same 103) (head ts) then named (codes "gt;") 62 ts
    else named (codes "quot;") 34 ts

unfoldable pub reference : Reader ℕ
reference = mark 38 >> entity

-- ---- start tags

unfoldable pub value_byte : ℕ → Reader ℕ
value_byte quote ts =
    if next (same 38) (head ts) then reference ts else one (passing (is_plain_in_value quote)) ts

unfoldable pub value_step : ℕ → Text → Reader (ControlFlow Text Text)
value_step quote v ts =
    if next (same quote) (head ts) then made (made (mark quote) (λ _. v)) Break ts
    else made (made (value_byte quote) (λ b. v ++ b ∷ [])) Continue ts

unfoldable pub quoted : ℕ → Reader Text
quoted quote = closed (value_step quote) []

unfoldable pub value : Reader Text
value = one (passing is_quote) >>= quoted

unfoldable pub spaced_value_step : Unit {0} → Reader (ControlFlow Text (Unit {0}))
spaced_value_step u ts =
    if next is_quote (head ts) then made value Break ts
    else made (made (one (passing is_white)) (λ _. tt)) Continue ts

unfoldable pub spaced_value : Reader Text
spaced_value = closed spaced_value_step tt

unfoldable pub attribute : Attributes → Reader Attributes
attribute found =
    name >>= tested (is_new found)
    >>= (λ n. spaced_mark 61 >> made spaced_value (λ v. found ++ (n, v) ∷ []))

unfoldable pub tag_piece : Tag → Reader Tag
tag_piece t ts =
    if next is_white (head ts) then made (one (passing is_white)) (λ _. white_in_tag t) ts
    else if t.apart then made (attribute t.found) attribute_in_tag ts
    else refuse ts

unfoldable pub tag_end : Text → Tag → Reader StartTag
tag_end n t ts =
    if next (same 62) (head ts) then made (mark 62) (λ _. start_tag n false t) ts
    else made (word (codes "/>")) (λ _. start_tag n true t) ts

unfoldable pub tag_step : Text → Tag → Reader (ControlFlow StartTag Tag)
tag_step n t ts =
    if next (λ b. b == 62 || b == 47) (head ts) then made (tag_end n t) Break ts
    else made (tag_piece t) Continue ts

unfoldable pub start : Reader StartTag
start = name >>= (λ n. closed (tag_step n) no_attribute)

-- ---- what stands between the tags

abbrev pub mark_place : Text → Text → Option ℕ
mark_place m [] = if is_front_of m [] then Some 0 else None
mark_place m (b ∷ bs) = if is_front_of m (b ∷ bs) then Some 0 else option_map suc (mark_place m bs)

unfoldable pub cut : Text → Option ℕ → Reader Text
cut m None ts = Err (Unexpected 0)
cut m (Some at) ts = Ok (take at ts, drop (at + length m) ts)

unfoldable pub up_to : Text → Reader Text
up_to m ts = cut m (mark_place m ts) ts

-- behind `<!`
unfoldable pub cdata : Reader Text
cdata = word (codes "[CDATA[") >> up_to (codes "]]>")

unfoldable pub comment : Reader Text
comment = word (codes "--") >> up_to (codes "-->")

-- behind `<?`
unfoldable pub declaration : Reader Text
declaration = word (codes "xml") >> (one (passing is_white) >> up_to (codes "?>"))

-- behind `</`
unfoldable pub end_tag : Text → Reader ℕ
end_tag n = word n >> spaced_mark 62

-- behind `<`
unfoldable pub bracket : Reader Element → Text → Content → Reader (ControlFlow (List Node) Content)
bracket inner n c ts =
    if next (same 47) (head ts) then made (made (mark 47 >> end_tag n) (λ _. nodes_of c)) Break ts
    else if next (same 33) (head ts) then made (made (mark 33 >> cdata) (with_bytes c)) Continue ts
    else made (made inner (with_child c)) Continue ts

unfoldable pub content_byte : Reader ℕ
content_byte ts =
    if next (same 38) (head ts) then reference ts else one (passing is_plain_in_text) ts

unfoldable pub content_step : Reader Element → Text → Content
    → Reader (ControlFlow (List Node) Content)
content_step inner n c ts =
    if next (same 60) (head ts) then (mark 60 >> bracket inner n c) ts
    else made (made content_byte (λ b. with_bytes c (b ∷ []))) Continue ts

unfoldable pub inside : Reader Element → Text → Reader (List Node)
inside inner n = closed (content_step inner n) no_content

unfoldable pub behind_start : Reader Element → Bool → StartTag → Reader Element
behind_start inner true tag = gives (element tag [])
behind_start inner false tag = made (inside inner tag.name) (element tag)

unfoldable pub element_in : Reader Element → Reader Element
element_in inner = start >>= (λ tag. behind_start inner tag.is_empty tag)

-- One level more would be open as soon as a name begins.
unfoldable pub no_level : Reader Element
no_level ts = if next is_name_start (head ts) then Err (TooDeep (length ts)) else refuse ts

unfoldable pub opened : ℕ → Reader Element
opened zero = no_level
opened (suc level) = element_in (opened level)

-- ---- whole texts

-- behind `<`, before the root
unfoldable pub prolog_bracket : Bool → Reader (ControlFlow ℕ Bool)
prolog_bracket at_first ts =
    if next (same 33) (head ts) then made (made (mark 33 >> comment) (λ _. false)) Continue ts
    else if next (same 63) (head ts)
    then (if at_first then made (made (mark 63 >> declaration) (λ _. false)) Continue ts
    else refuse ts)
    else Ok (Break 60, ts)

unfoldable pub prolog_step : Bool → Reader (ControlFlow ℕ Bool)
prolog_step at_first ts =
    if next (same 60) (head ts) then (mark 60 >> prolog_bracket at_first) ts
    else made (made (one (passing is_white)) (λ _. false)) Continue ts

unfoldable pub prolog : Reader ℕ
prolog = closed prolog_step true

unfoldable pub misc : Reader (Unit {0})
misc ts =
    if next is_white (head ts) then made (one (passing is_white)) (λ _. tt) ts
    else made (word (codes "<!") >> comment) (λ _. tt) ts

unfoldable pub trail_step : Element → Reader (ControlFlow Element Element)
trail_step e ts =
    if next (λ _. true) (head ts) then made (made misc (λ _. e)) Continue ts else Ok (Break e, ts)

unfoldable pub trail : Element → Reader Element
trail e = closed trail_step e

unfoldable pub document : ℕ → Reader Element
document level = prolog >> (opened level >>= trail)

-- what stands before the root, and the root's start tag
unfoldable pub head_of : Reader StartTag
head_of = prolog >> start
