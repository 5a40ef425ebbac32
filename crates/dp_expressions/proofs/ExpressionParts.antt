-- The parts of expressions at each level: where they stop, what they start with, and how one level down is read.
use Rattle.std.proofs.Common.{◌≡◌, ℕ, zero, suc, ◌<◌, ◌≤◌, Bool, true, ◌||◌, List, is_some, refl, arith}
use Rattle.dp_lexer.specs.declared.token.Token.{Token}
use Rattle.dp_expressions.specs.declared.operand.Operand.{Operand}
use Rattle.dp_expressions.specs.declared.operand.Part.{Part}
use Rattle.dp_expressions.specs.declared.operand.Part.TheVariants as part
use Rattle.dp_token_rules.specs.declared.terminal.Terminal.TheVariants.{Of}
use Rattle.dp_lexer.specs.declared.token.Word.TheVariants as word
use Rattle.dp_token_rules.specs.declared.terminal.Terminal.{Terminal}
use Rattle.dp_token_rules.specs.declared.terminal.Terminal.TheVariants as terminal
use Rattle.dp_tree.specs.declared.tree.Expression.{Expression}
use Rattle.dp_tree.specs.declared.tree.Expression.TheVariants as tree
use Rattle.dp_tree.specs.declared.tree.Place.{Place}
use Rattle.dp_tree.specs.declared.tree.Item.{Item}
use Rattle.dp_tree.specs.declared.tree.Order.TheVariants.{StepFirst}
use Rattle.dp_token_rules.specs.Terminals.{is, head}
use Rattle.dp_token_rules.specs.inner.Input.{Reader}
use Rattle.dp_token_rules.specs.Rules.{Joined, Made, Mark}
use Rattle.dp_token_rules.specs.Lists.{SomeItems, AnyItems}
use Rattle.dp_expressions.specs.Grammar.{prefix_in, step_in, inclusion_in, constant_in, place, indexed, PlaceOf, Index, PlaceRule, Group, ItemRule, Literal, ArrayCall, Call, Isset, Primary, Prefixed, SteppedFirst, OperandRule, CoalesceRule, ConditionalRule, IncludeRule, ExpressionRule, inner}
use Rattle.dp_token_rules.proofs.Answers.{Rules, Stop, JoinedAt, EitherAt, GivesAt, OneAt, MarkAt, MadeAt, ManyAt, Answers, Can, StartsIn, mark_starts, joined_starts, made_starts, either_starts, or_starts, under_answers}
use Rattle.dp_expressions.proofs.Heights.{stop_at}
use Rattle.dp_expressions.proofs.Least.{zero_text, zero_tree, least_whole, least_coalesce, least_operand}
use Rattle.dp_expressions.proofs.Factored.{PrimaryIndexed, OtherRule, OpeningRule}
use Rattle.dp_token_rules.proofs.More.{sort_starts, variable_starts, name_starts, number_starts, text_starts}
use Rattle.dp_token_rules.specs.TokenValues.{variable_in, name_in, number_in, text_in, by_terminal, by_kind}

-- ---- the rules at each level

abbrev pub At : Part → Rules ℕ Expression
At part.Whole m = ExpressionRule m (inner m)
At part.Coalesce m = CoalesceRule m (inner m)
At part.Alone m = OperandRule m (inner m)
At part.Index m = Index m (inner m)

-- the same one level down
abbrev pub Under : Part → Rules ℕ Expression
Under part.Whole m = (inner m).expression
Under part.Coalesce m = (inner m).coalesce
Under part.Alone m = (inner m).operand
Under part.Index m = (inner m).index

-- where a part may end
abbrev pub stop_of : Part → Stop Expression
stop_of part.Whole a s = stop_at 12 a s
stop_of part.Coalesce a s = stop_at 10 a s
stop_of part.Alone a s = stop_at 2 a s
stop_of part.Index a s = true

-- An index is read only before its bracket.
abbrev pub may_read : Part → Terminal → Bool
may_read part.Whole s = true
may_read part.Coalesce s = true
may_read part.Alone s = true
may_read part.Index s = is (Of word.OpenBracket) s

-- what the reader of the level below answers, if there is one
abbrev pub Reads : ℕ → (Part → Reader Expression) → Type 0
Reads level read =
    (n : ℕ) → level ≡ suc n → (p : Part) (ts : List Token) → may_read p (head ts) ≡ true
    → Answers ◌≤◌ (At p) (stop_of p) n ts (read p ts)

none_under : (p : Part) (text : List Token) (a : Expression) → Under p 0 text a → ⊥
none_under part.Whole text a h = h
none_under part.Coalesce text a h = h
none_under part.Alone text a h = h
none_under part.Index text a h = h

pub up : (p : Part) (k : ℕ) (text : List Token) (a : Expression) → At p k text a → Under p (suc k) text a
up part.Whole k text a h = h
up part.Coalesce k text a h = h
up part.Alone k text a h = h
up part.Index k text a h = h

pub down : (p : Part) (k : ℕ) (text : List Token) (a : Expression) → Under p (suc k) text a → At p k text a
down part.Whole k text a h = h
down part.Coalesce k text a h = h
down part.Alone k text a h = h
down part.Index k text a h = h

pub inner_answers : (level : ℕ) (read : Part → Reader Expression) → Reads level read → 0 < level
    → (p : Part) (ts : List Token) → may_read p (head ts) ≡ true
    → Answers ◌≤◌ (Under p) (stop_of p) level ts (read p ts)
inner_answers zero read reads some p ts may = absurd (omega arith)
inner_answers (suc n) read reads some p ts may =
    under_answers (At p) (Under p) (stop_of p) n ts (none_under p) (down p) (up p) (read p ts) (reads n refl p ts may)

-- what an expression one level down may be, where there is such a level
pub some_whole_under : (level : ℕ) → 0 < level → Can ◌≤◌ level (Under part.Whole)
some_whole_under level some zero above = absurd (omega arith)
some_whole_under level some (suc k) above = (zero_text, zero_tree, least_whole k (inner k))

pub some_coalesce_under : (level : ℕ) → 0 < level → Can ◌≤◌ level (Under part.Coalesce)
some_coalesce_under level some zero above = absurd (omega arith)
some_coalesce_under level some (suc k) above = (zero_text, zero_tree, least_coalesce k (inner k))

pub some_alone_under : (level : ℕ) → 0 < level → Can ◌≤◌ level (Under part.Alone)
some_alone_under level some zero above = absurd (omega arith)
some_alone_under level some (suc k) above = (zero_text, zero_tree, least_operand k (inner k))

-- ---- what the rules start with

abbrev pub IndexAt : Rules ℕ Expression
IndexAt m = Index m (inner m)

abbrev pub PlaceAt : Rules ℕ Place
PlaceAt m = PlaceRule m (inner m)

abbrev pub PlaceUnder : Rules ℕ Place
PlaceUnder m = PlaceOf ((inner m).index)

abbrev pub GroupAt : Rules ℕ Expression
GroupAt m = Group m (inner m)

abbrev pub ItemAt : Rules ℕ Item
ItemAt m = ItemRule m (inner m)

abbrev pub LiteralAt : Rules ℕ Expression
LiteralAt m = Literal m (inner m)

abbrev pub ArrayCallAt : Rules ℕ Expression
ArrayCallAt m = ArrayCall m (inner m)

abbrev pub CallAt : Rules ℕ Expression
CallAt m = Call m (inner m)

abbrev pub ConstantNameAt : Rules ℕ Expression
ConstantNameAt = MadeAt (OneAt (by_kind name_in)) tree.Constant

-- what begins with a name
abbrev pub NamedAt : Rules ℕ Expression
NamedAt = EitherAt CallAt ConstantNameAt

abbrev pub IssetAt : Rules ℕ Expression
IssetAt m = Isset m (inner m)

abbrev pub PrimaryAt : Rules ℕ Expression
PrimaryAt m = Primary m (inner m)

abbrev pub PrimaryIndexedAt : Rules ℕ Expression
PrimaryIndexedAt m = PrimaryIndexed m (inner m)

abbrev pub PrefixedAt : Rules ℕ Expression
PrefixedAt m = Prefixed m (inner m)

abbrev pub SteppedFirstAt : Rules ℕ Expression
SteppedFirstAt m = SteppedFirst m (inner m)

abbrev pub NumberAt : Rules ℕ Expression
NumberAt = MadeAt (OneAt (by_kind number_in)) tree.Number

abbrev pub TextAt : Rules ℕ Expression
TextAt = MadeAt (OneAt (by_kind text_in)) tree.Text

abbrev pub ConstantAt : Rules ℕ Expression
ConstantAt = OneAt (by_terminal constant_in)

abbrev pub OtherAt : Rules ℕ Expression
OtherAt m = OtherRule m (inner m)

abbrev pub OperandAt : Rules ℕ Expression
OperandAt m = OperandRule m (inner m)

abbrev pub OpeningAt : Rules ℕ Operand
OpeningAt m = OpeningRule m (inner m)

abbrev pub CoalesceAt : Rules ℕ Expression
CoalesceAt m = CoalesceRule m (inner m)

abbrev pub ConditionalAt : Rules ℕ Expression
ConditionalAt m = ConditionalRule m (inner m)

abbrev pub IncludeAt : Rules ℕ Expression
IncludeAt m = IncludeRule m (inner m)

abbrev pub begins_constant : Terminal → Bool
begins_constant s = is_some (constant_in s)

abbrev pub begins_prefix : Terminal → Bool
begins_prefix s = is_some (prefix_in s)

abbrev pub begins_step : Terminal → Bool
begins_step s = is_some (step_in s)

abbrev pub begins_inclusion : Terminal → Bool
begins_inclusion s = is_some (inclusion_in s)

-- in the order of the reader's tests
abbrev pub begins_behind_array : Terminal → Bool
begins_behind_array s = is (Of word.Array) s || is terminal.Name s

abbrev pub begins_behind_bracket : Terminal → Bool
begins_behind_bracket s = is (Of word.OpenBracket) s || begins_behind_array s

abbrev pub begins_behind_group : Terminal → Bool
begins_behind_group s = is (Of word.OpenParenthesis) s || begins_behind_bracket s

abbrev pub begins_behind_constant : Terminal → Bool
begins_behind_constant s = begins_constant s || begins_behind_group s

abbrev pub begins_primary : Terminal → Bool
begins_primary s = is terminal.Text s || begins_behind_constant s

abbrev pub begins_behind_isset : Terminal → Bool
begins_behind_isset s = is (Of word.Isset) s || begins_primary s

abbrev pub begins_behind_number : Terminal → Bool
begins_behind_number s = is terminal.Number s || begins_behind_isset s

abbrev pub begins_behind_step : Terminal → Bool
begins_behind_step s = begins_step s || begins_behind_number s

abbrev pub begins_other : Terminal → Bool
begins_other s = begins_prefix s || begins_behind_step s

pub index_starts : StartsIn IndexAt (is (Of word.OpenBracket))
index_starts m text a h =
    joined_starts (MarkAt (Of word.OpenBracket)) (λ _. JoinedAt (Under part.Whole)
    (λ at. JoinedAt (MarkAt (Of word.CloseBracket)) (λ _. GivesAt at))) (is (Of word.OpenBracket))
    (mark_starts (Of word.OpenBracket)) m text a h.spelled

pub index_under_starts : StartsIn (Under part.Index) (is (Of word.OpenBracket))
index_under_starts zero text a h = absurd h
index_under_starts (suc k) text a h = index_starts k text a h

pub place_starts : StartsIn PlaceAt (is terminal.Variable)
place_starts =
    joined_starts (OneAt (by_kind variable_in)) (λ name. MadeAt (ManyAt IndexAt) (place name))
    (is terminal.Variable) variable_starts

pub place_under_starts : StartsIn PlaceUnder (is terminal.Variable)
place_under_starts =
    joined_starts (OneAt (by_kind variable_in)) (λ name. MadeAt (ManyAt (Under part.Index)) (place name))
    (is terminal.Variable) variable_starts

pub group_starts : StartsIn GroupAt (is (Of word.OpenParenthesis))
group_starts m text a h =
    joined_starts (MarkAt (Of word.OpenParenthesis)) (λ _. JoinedAt (Under part.Whole)
    (λ within. JoinedAt (MarkAt (Of word.CloseParenthesis)) (λ _. GivesAt within))) (is (Of word.OpenParenthesis))
    (mark_starts (Of word.OpenParenthesis)) m text a h.spelled

pub literal_starts : StartsIn LiteralAt (is (Of word.OpenBracket))
literal_starts m text a h =
    joined_starts (MarkAt (Of word.OpenBracket)) (λ _ m. Made (AnyItems (λ _. ItemAt m) (Of word.CloseBracket))
    tree.Array) (is (Of word.OpenBracket)) (mark_starts (Of word.OpenBracket)) m text a h.spelled

pub array_call_starts : StartsIn ArrayCallAt (is (Of word.Array))
array_call_starts m text a h =
    joined_starts (MarkAt (Of word.Array)) (λ _ m. Joined (Mark (Of word.OpenParenthesis))
    (λ _. Made (AnyItems (λ _. ItemAt m) (Of word.CloseParenthesis)) tree.Array)) (is (Of word.Array))
    (mark_starts (Of word.Array)) m text a h.spelled

pub call_starts : StartsIn CallAt (is terminal.Name)
call_starts m text a h =
    joined_starts (OneAt (by_kind name_in)) (λ name m. Joined (Mark (Of word.OpenParenthesis))
    (λ _. Made (AnyItems (λ _. Under part.Whole m) (Of word.CloseParenthesis)) (tree.Call name)))
    (is terminal.Name) name_starts m text a h.spelled

pub named_starts : StartsIn NamedAt (is terminal.Name)
named_starts =
    either_starts CallAt ConstantNameAt (is terminal.Name) call_starts
    (made_starts (OneAt (by_kind name_in)) tree.Constant (is terminal.Name) name_starts)

pub isset_starts : StartsIn IssetAt (is (Of word.Isset))
isset_starts m text a h =
    joined_starts (MarkAt (Of word.Isset)) (λ _ m. Joined (Mark (Of word.OpenParenthesis))
    (λ _. Made (SomeItems (λ _. PlaceUnder m) (Of word.CloseParenthesis)) tree.Isset)) (is (Of word.Isset))
    (mark_starts (Of word.Isset)) m text a h.spelled

pub prefixed_starts : StartsIn PrefixedAt begins_prefix
prefixed_starts m text a h =
    joined_starts (OneAt (by_terminal prefix_in)) (λ by. MadeAt (Under part.Alone) (tree.Unary by)) begins_prefix
    (sort_starts prefix_in) m text a h.spelled

pub stepped_first_starts : StartsIn SteppedFirstAt begins_step
stepped_first_starts m text a h =
    joined_starts (OneAt (by_terminal step_in)) (λ by m. Made (PlaceUnder m) (λ of. tree.Step by StepFirst of))
    begins_step (sort_starts step_in) m text a h.spelled

pub number_rule_starts : StartsIn NumberAt (is terminal.Number)
number_rule_starts = made_starts (OneAt (by_kind number_in)) tree.Number (is terminal.Number) number_starts

pub text_rule_starts : StartsIn TextAt (is terminal.Text)
text_rule_starts = made_starts (OneAt (by_kind text_in)) tree.Text (is terminal.Text) text_starts

pub behind_array_starts : StartsIn (EitherAt ArrayCallAt NamedAt) begins_behind_array
behind_array_starts =
    or_starts ArrayCallAt NamedAt (is (Of word.Array)) (is terminal.Name) array_call_starts named_starts

pub behind_bracket_starts : StartsIn (EitherAt LiteralAt (EitherAt ArrayCallAt NamedAt)) begins_behind_bracket
behind_bracket_starts =
    or_starts LiteralAt (EitherAt ArrayCallAt NamedAt) (is (Of word.OpenBracket)) begins_behind_array literal_starts
    behind_array_starts

pub behind_group_starts : StartsIn (EitherAt GroupAt (EitherAt LiteralAt (EitherAt ArrayCallAt NamedAt)))
    begins_behind_group
behind_group_starts =
    or_starts GroupAt (EitherAt LiteralAt (EitherAt ArrayCallAt NamedAt))
    (is (Of word.OpenParenthesis)) begins_behind_bracket group_starts behind_bracket_starts

pub behind_constant_starts : StartsIn (EitherAt ConstantAt (EitherAt GroupAt
    (EitherAt LiteralAt (EitherAt ArrayCallAt NamedAt)))) begins_behind_constant
behind_constant_starts =
    or_starts ConstantAt (EitherAt GroupAt (EitherAt LiteralAt (EitherAt ArrayCallAt NamedAt))) begins_constant
    begins_behind_group (sort_starts constant_in) behind_group_starts

pub primary_starts : StartsIn PrimaryAt begins_primary
primary_starts =
    or_starts TextAt (EitherAt ConstantAt (EitherAt GroupAt (EitherAt LiteralAt (EitherAt ArrayCallAt NamedAt))))
    (is terminal.Text) begins_behind_constant text_rule_starts behind_constant_starts

pub primary_indexed_starts : StartsIn PrimaryIndexedAt begins_primary
primary_indexed_starts =
    joined_starts PrimaryAt (λ base. MadeAt (ManyAt IndexAt) (indexed base)) begins_primary primary_starts

pub behind_isset_starts : StartsIn (EitherAt IssetAt PrimaryIndexedAt) begins_behind_isset
behind_isset_starts =
    or_starts IssetAt PrimaryIndexedAt (is (Of word.Isset)) begins_primary isset_starts primary_indexed_starts

pub behind_number_starts : StartsIn (EitherAt NumberAt (EitherAt IssetAt PrimaryIndexedAt)) begins_behind_number
behind_number_starts =
    or_starts NumberAt (EitherAt IssetAt PrimaryIndexedAt) (is terminal.Number) begins_behind_isset number_rule_starts
    behind_isset_starts

pub behind_step_starts : StartsIn (EitherAt SteppedFirstAt (EitherAt NumberAt (EitherAt IssetAt PrimaryIndexedAt)))
    begins_behind_step
behind_step_starts =
    or_starts SteppedFirstAt (EitherAt NumberAt (EitherAt IssetAt PrimaryIndexedAt)) begins_step begins_behind_number
    stepped_first_starts behind_number_starts

pub other_starts : StartsIn OtherAt begins_other
other_starts =
    or_starts PrefixedAt (EitherAt SteppedFirstAt (EitherAt NumberAt (EitherAt IssetAt PrimaryIndexedAt))) begins_prefix
    begins_behind_step prefixed_starts behind_step_starts
