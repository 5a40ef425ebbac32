-- Stack lines, contexts and breakpoints are read as they were written.
use Rattle.std.proofs.Common.{◌≡◌, ℕ, Bool, true, false, ◌&&◌, [], ◌∷◌, ◌++◌, Option, Some, None, refl, ap, ◌∙◌, codes, decimal, nat_le, arith, append_assoc}
use Rattle.std.proofs.lemmas.Bool.{and_parts}
use Rattle.dp_markup.specs.declared.tree.Element.{Element}
use Rattle.dp_markup.specs.Grammar.{same_text, value_of}
use Rattle.dp_packet.specs.declared.packet.StackLine.{StackLine}
use Rattle.dp_packet.specs.declared.packet.BreakLine.{BreakLine}
use Rattle.dp_packet.specs.declared.packet.BreakKind.{BreakKind}
use Rattle.dp_packet.specs.declared.packet.HitRule.{HitRule}
use Rattle.dp_packet.specs.Parts.{Text, Attributes, element, given, text_nodes}
use Rattle.dp_packet.specs.Breakpoints.{kind_attributes, place_attributes, hit_attributes, resolved_attribute, given_number, expression_nodes}
use Rattle.dp_bytes.specs.Decimals.{decimal_in}
use Rattle.dp_reply.specs.Contents.{◌>>=◌, flag_in, alone, words, elements, optional_number, most_32, most_64, only, text_in}
use Rattle.dp_reply.specs.Readings.{Sort, Hits, rule_in, stack_in, context_in, sort_in, hits_in, expression_of, says_resolved, break_line, breakpoint_in}
use Rattle.dp_reply.specs.Norm.{is_within, is_stack_line, is_context, is_break_line}
use Rattle.dp_reply.proofs.Leaves.{number_is, flag_is, kind_is, state_is, rule_is}
use Rattle.dp_reply.proofs.Nodes.{words_text, elements_text, words_none, elements_all}

-- ---- stack lines and contexts

unfoldable pub stack_element : StackLine → Element
stack_element s =
    element (codes "stack")
    ((codes "level", decimal s.level) ∷ (codes "type", codes "file") ∷ (codes "filename", s.uri)
    ∷ (codes "lineno", decimal s.line) ∷ (codes "where", s.place) ∷ [])
    []

pub stack_is : (s : StackLine) → is_stack_line s ≡ true → stack_in (stack_element s) ≡ Some s
unfolding stack_in stack_element
stack_is s sound =
    let parts = and_parts (nat_le s.level most_32) (nat_le s.line most_32) sound in
    let level = number_is most_32 s.level parts.0 (omega arith) in
    let line = number_is most_32 s.line parts.1 (omega arith) in
    ap (λ n. n >>= λ level. decimal_in most_32 (decimal s.line)
    >>= λ line. Some (record { level = level; uri = s.uri; line = line; place = s.place })) level
    ∙ ap (λ n. n >>= λ line. Some (record { level = s.level; uri = s.uri; line = line; place = s.place })) line

unfoldable pub context_element : Text × ℕ → Element
context_element c = element (codes "context") ((codes "name", c.0) ∷ (codes "id", decimal c.1) ∷ []) []

pub context_is : (c : Text × ℕ) → is_context c ≡ true → context_in (context_element c) ≡ Some c
unfolding context_in context_element
context_is c sound = ap (λ n. n >>= λ id. Some (c.0, id)) (number_is most_32 c.1 sound (omega arith))

-- ---- breakpoints

unfoldable pub breakpoint_element : BreakLine → Element
breakpoint_element b =
    element (codes "breakpoint")
    (kind_attributes b ++ place_attributes b ++ hit_attributes b ++ resolved_attribute b.resolved)
    (expression_nodes b.expression)

-- the attributes of a place, by what they say
places : Option Text → Option ℕ → Option Text → Attributes
places uri line function =
    given (codes "filename") uri ++ given_number (codes "lineno") line ++ given (codes "function") function

-- an attribute that says nothing of the place
beside : (uri : Option Text) (line : Option ℕ) (function : Option Text) (rest : Attributes) (name : Text)
    → same_text (codes "filename") name ≡ false → same_text (codes "lineno") name ≡ false
    → same_text (codes "function") name ≡ false
    → value_of (places uri line function ++ rest) name ≡ value_of rest name
unfolding places
beside None None None rest name x y z = refl
beside None None (Some f) rest name x y z = rw z refl
beside None (Some l) None rest name x y z = rw y refl
beside None (Some l) (Some f) rest name x y z = rw (y, z) refl
beside (Some u) None None rest name x y z = rw x refl
beside (Some u) None (Some f) rest name x y z = rw (x, z) refl
beside (Some u) (Some l) None rest name x y z = rw (x, y) refl
beside (Some u) (Some l) (Some f) rest name x y z = rw (x, y, z) refl

abbrev line_text : Option ℕ → Option Text
line_text None = None
line_text (Some n) = Some (decimal n)

uri_at : (uri : Option Text) (line : Option ℕ) (function : Option Text) (rest : Attributes)
    → value_of rest (codes "filename") ≡ None
    → value_of (places uri line function ++ rest) (codes "filename") ≡ uri
unfolding places
uri_at None None None rest none = none
uri_at None None (Some f) rest none = none
uri_at None (Some l) None rest none = none
uri_at None (Some l) (Some f) rest none = none
uri_at (Some u) line function rest none = refl

line_at : (uri : Option Text) (line : Option ℕ) (function : Option Text) (rest : Attributes)
    → value_of rest (codes "lineno") ≡ None
    → value_of (places uri line function ++ rest) (codes "lineno") ≡ line_text line
unfolding places
line_at None None None rest none = none
line_at None None (Some f) rest none = none
line_at None (Some l) function rest none = refl
line_at (Some u) None None rest none = none
line_at (Some u) None (Some f) rest none = none
line_at (Some u) (Some l) function rest none = refl

function_at : (uri : Option Text) (line : Option ℕ) (function : Option Text) (rest : Attributes)
    → value_of rest (codes "function") ≡ None
    → value_of (places uri line function ++ rest) (codes "function") ≡ function
unfolding places
function_at None None None rest none = none
function_at None None (Some f) rest none = refl
function_at None (Some l) None rest none = none
function_at None (Some l) (Some f) rest none = refl
function_at (Some u) None None rest none = none
function_at (Some u) None (Some f) rest none = refl
function_at (Some u) (Some l) None rest none = none
function_at (Some u) (Some l) (Some f) rest none = refl

line_is : (line : Option ℕ) → is_within most_32 line ≡ true → optional_number most_32 (line_text line) ≡ Some line
line_is None sound = refl
line_is (Some n) sound = ap (λ r. r >>= λ n. Some (Some n)) (number_is most_32 n sound (omega arith))

expression_element : Text → Element
expression_element text = element (codes "expression") [] (text_nodes text)

expression_text : (text : Text) → text_in (expression_element text) ≡ Some text
unfolding expression_element
expression_text text =
    ap (λ all. alone all (words (text_nodes text))) (elements_text text) ∙ ap (λ (t : Text). Some t) (words_text text)

expression_nodes_are : (expression : Option Text)
    → (alone (words (expression_nodes expression)) (elements (expression_nodes expression)) >>= only >>= expression_of)
    ≡ Some expression
unfolding expression_element
expression_nodes_are None = refl
expression_nodes_are (Some text) =
    let nodes = expression_nodes (Some text) in
    ap (λ w. alone w (elements nodes) >>= only >>= expression_of)
    (words_none expression_element (λ _. refl) (text ∷ []))
    ∙ ap (λ all. only all >>= expression_of) (elements_all expression_element (λ _. refl) (text ∷ []))
    ∙ ap (λ found. found >>= λ t. Some (Some t)) (expression_text text)

record SoundLine (b : BreakLine) : Type 0 where
  id : nat_le b.id most_32 ≡ true
  line : is_within most_32 b.line ≡ true
  hits : nat_le b.hits most_64 ≡ true
  hit_value : nat_le b.hit_value most_32 ≡ true

sound_line : (b : BreakLine) → is_break_line b ≡ true → SoundLine b
sound_line b sound =
    let id = nat_le b.id most_32 in
    let line = is_within most_32 b.line in
    let hits = nat_le b.hits most_64 in
    let three = and_parts (id && line && hits) (nat_le b.hit_value most_32) sound in
    let two = and_parts (id && line) hits three.0 in
    let one = and_parts id line two.0 in
    record { id = one.0; line = one.1; hits = two.1; hit_value = three.1 }

abbrev sort_from : Option ℕ → Option BreakKind → Option Bool → Option Sort
sort_from id kind enabled = id >>= λ id. kind >>= λ kind. enabled >>= λ enabled. Some (id, kind, enabled)

sort_is : (b : BreakLine) → SoundLine b → sort_in (breakpoint_element b) ≡ Some (b.id, b.kind, b.enabled)
unfolding sort_in breakpoint_element
sort_is b sound =
    let id = number_is most_32 b.id sound.id (omega arith) in
    let kind = kind_is b.kind in
    let enabled = state_is b.enabled in
    λ i. sort_from (id i) (kind i) (enabled i)

abbrev hits_from : Option ℕ → Option ℕ → Option HitRule → Option Bool → Option Hits
hits_from hits hit_value hit_rule temporary =
    hits >>= λ hits. hit_value >>= λ hit_value. hit_rule >>= λ hit_rule. temporary
    >>= λ temporary. Some (hits, hit_value, hit_rule, temporary)

-- what stands behind the attributes of a place
abbrev behind : BreakLine → Attributes
behind b = hit_attributes b ++ resolved_attribute b.resolved

-- by what stands in the attributes of a place and behind them
by_place : (b : BreakLine) (name : Text)
    → value_of (place_attributes b ++ hit_attributes b ++ resolved_attribute b.resolved) name
    ≡ value_of (place_attributes b ++ behind b) name
by_place b name =
    ap (λ (l : Attributes). value_of l name)
    (append_assoc (place_attributes b) (hit_attributes b) (resolved_attribute b.resolved))

behind_place : (b : BreakLine) (name : Text) → same_text (codes "filename") name ≡ false
    → same_text (codes "lineno") name ≡ false → same_text (codes "function") name ≡ false
    → value_of (place_attributes b ++ hit_attributes b ++ resolved_attribute b.resolved) name ≡ value_of (behind b) name
unfolding places
behind_place b name x y z = by_place b name ∙ beside b.uri b.line b.function (behind b) name x y z

-- the attribute of a breakpoint that is resolved says nothing else
nothing_else : (resolved : Bool) (name : Text) → same_text (codes "resolved") name ≡ false
    → value_of (resolved_attribute resolved) name ≡ None
nothing_else true name x = rw x refl
nothing_else false name x = refl

says_what_is : (resolved : Bool)
    → says_resolved (value_of (resolved_attribute resolved) (codes "resolved")) ≡ resolved
says_what_is true = refl
says_what_is false = refl

resolved_is : (b : BreakLine)
    → says_resolved (value_of (place_attributes b ++ hit_attributes b ++ resolved_attribute b.resolved)
    (codes "resolved"))
    ≡ b.resolved
resolved_is b = ap says_resolved (behind_place b (codes "resolved") refl refl refl) ∙ says_what_is b.resolved

hits_are : (b : BreakLine) → SoundLine b
    → hits_in (breakpoint_element b) ≡ Some (b.hits, b.hit_value, b.hit_rule, b.temporary)
unfolding hits_in breakpoint_element
hits_are b sound =
    let count = behind_place b (codes "hit_count") refl refl refl in
    let value = behind_place b (codes "hit_value") refl refl refl in
    let condition = behind_place b (codes "hit_condition") refl refl refl in
    let temporary = behind_place b (codes "temporary") refl refl refl in
    let hits = number_is most_64 b.hits sound.hits (omega arith) in
    let hit_value = number_is most_32 b.hit_value sound.hit_value (omega arith) in
    let rule = rule_is b.hit_rule in
    let flag = flag_is b.temporary in
    (λ i. hits_from (count i >>= decimal_in most_64) (value i >>= decimal_in most_32) (condition i >>= rule_in)
    (temporary i >>= flag_in))
    ∙ (λ i. hits_from (hits i) (hit_value i) (rule i) (flag i))

abbrev line_from : Element → Option Sort → Option (Option ℕ) → Option Hits → Option (Option Text) → Option BreakLine
line_from e sort line hits expression =
    sort >>= λ sort. line >>= λ line. hits >>= λ hits. expression
    >>= λ expression. Some (break_line e sort line hits expression)

at_place : BreakLine → Option Text → Option Text → Bool → BreakLine
at_place b uri function resolved = record {
  id = b.id;
  kind = b.kind;
  enabled = b.enabled;
  uri = uri;
  line = b.line;
  function = function;
  hits = b.hits;
  hit_value = b.hit_value;
  hit_rule = b.hit_rule;
  temporary = b.temporary;
  resolved = resolved;
  expression = b.expression;
}

pub breakpoint_is : (b : BreakLine) → is_break_line b ≡ true → breakpoint_in (breakpoint_element b) ≡ Some b
unfolding breakpoint_in breakpoint_element places at_place
breakpoint_is b good =
    let sound = sound_line b good in
    let sort = sort_is b sound in
    let line = ap (optional_number most_32) (by_place b (codes "lineno")
    ∙ line_at b.uri b.line b.function (behind b) (nothing_else b.resolved (codes "lineno") refl))
    ∙ line_is b.line sound.line in
    let hits = hits_are b sound in
    let expression = expression_nodes_are b.expression in
    let uri = by_place b (codes "filename")
    ∙ uri_at b.uri b.line b.function (behind b) (nothing_else b.resolved (codes "filename") refl) in
    let function = by_place b (codes "function")
    ∙ function_at b.uri b.line b.function (behind b) (nothing_else b.resolved (codes "function") refl) in
    let resolved = resolved_is b in
    (λ i. line_from (breakpoint_element b) (sort i) (line i) (hits i) (expression i))
    ∙ (λ i. Some (at_place b (uri i) (function i) (resolved i)))
