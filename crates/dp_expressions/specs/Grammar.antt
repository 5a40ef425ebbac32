-- The grammar of expressions (PHP manual, "Expressions" and "Operator Precedence"; what is left out
-- is our own).
use Rattle.std.specs.Prelude.{ℕ, zero, suc, Bool, true, false, not, ◌||◌, List, [], ◌∷◌, Option, Some, None, ◌++◌}
use Rattle.dp_tree.specs.declared.operators.BinaryOp.TheVariants as binary
use Rattle.dp_tree.specs.declared.operators.UnaryOp.{UnaryOp}
use Rattle.dp_tree.specs.declared.operators.UnaryOp.TheVariants as unary
use Rattle.dp_expressions.specs.declared.operand.Assignment.{Assignment}
use Rattle.dp_expressions.specs.declared.operand.Assignment.TheVariants as assignment
use Rattle.dp_expressions.specs.declared.rank.Rank.{Rank}
use Rattle.dp_expressions.specs.declared.rank.Rank.TheVariants as rank
use Rattle.dp_token_rules.specs.declared.terminal.Terminal.TheVariants.{Of}
use Rattle.dp_lexer.specs.declared.token.Word.TheVariants as word
use Rattle.dp_token_rules.specs.declared.terminal.Terminal.{Terminal}
use Rattle.dp_tree.specs.declared.tree.Expression.{Expression}
use Rattle.dp_tree.specs.declared.tree.Expression.TheVariants as tree
use Rattle.dp_tree.specs.declared.tree.Place.{Place}
use Rattle.dp_tree.specs.declared.tree.Item.{Item}
use Rattle.dp_tree.specs.declared.tree.Link.{Link}
use Rattle.dp_tree.specs.declared.tree.Operator.{Operator}
use Rattle.dp_tree.specs.declared.tree.Operator.TheVariants as operator
use Rattle.dp_tree.specs.declared.tree.Order.TheVariants.{StepFirst, ValueFirst}
use Rattle.dp_tree.specs.declared.tree.Inclusion.{Inclusion}
use Rattle.dp_tree.specs.declared.tree.Inclusion.TheVariants as inclusion
use Rattle.dp_token_rules.specs.TokenValues.{Text, name_in, number_in, text_in, Sort, Kind, Variable}
use Rattle.dp_token_rules.specs.Rules.{Rule, ◌>>=◌, ◌>>◌, ◌or◌, Gives, Made, Mark, When, Nests, Closed, Many, Perhaps}
use Rattle.dp_token_rules.specs.Lists.{SomeItems, AnyItems}

-- ---- what a token is worth, by its sort

abbrev pub prefix_in : Terminal → Option UnaryOp
prefix_in (Of word.Bang) = Some unary.Not
prefix_in (Of word.Minus) = Some unary.Minus
prefix_in (Of word.Plus) = Some unary.Plus
prefix_in _ = None

abbrev pub step_in : Terminal → Option UnaryOp
step_in (Of word.Increment) = Some unary.Increment
step_in (Of word.Decrement) = Some unary.Decrement
step_in _ = None

abbrev pub inclusion_in : Terminal → Option Inclusion
inclusion_in (Of word.Include) = Some inclusion.Include
inclusion_in (Of word.Require) = Some inclusion.Require
inclusion_in _ = None

abbrev pub assignment_in : Terminal → Option Assignment
assignment_in (Of word.Assign) = Some assignment.Plain
assignment_in (Of word.AddAssign) = Some (assignment.Compound binary.Add)
assignment_in (Of word.SubtractAssign) = Some (assignment.Compound binary.Sub)
assignment_in (Of word.MultiplyAssign) = Some (assignment.Compound binary.Mul)
assignment_in (Of word.ConcatAssign) = Some (assignment.Compound binary.Concat)
assignment_in (Of word.RemainderAssign) = Some (assignment.Compound binary.Rem)
assignment_in (Of word.CoalesceAssign) = Some assignment.Coalesce
assignment_in _ = None

abbrev pub constant_in : Terminal → Option Expression
constant_in (Of word.Null) = Some tree.Null
constant_in (Of word.True) = Some (tree.Bool true)
constant_in (Of word.False) = Some (tree.Bool false)
constant_in _ = None

-- the operators of each rank
abbrev pub operator_in : Rank → Terminal → Option Operator
operator_in rank.Or (Of word.EitherOf) = Some operator.Or
operator_in rank.And (Of word.BothOf) = Some operator.And
operator_in rank.Equality (Of word.Equal) = Some (operator.Of binary.Equal)
operator_in rank.Equality (Of word.NotEqual) = Some (operator.Of binary.NotEqual)
operator_in rank.Equality (Of word.Identical) = Some (operator.Of binary.Identical)
operator_in rank.Equality (Of word.NotIdentical) = Some (operator.Of binary.NotIdentical)
operator_in rank.Equality (Of word.Spaceship) = Some (operator.Of binary.Spaceship)
operator_in rank.Comparison (Of word.Less) = Some (operator.Of binary.Less)
operator_in rank.Comparison (Of word.LessOrEqual) = Some (operator.Of binary.LessEqual)
operator_in rank.Comparison (Of word.Greater) = Some (operator.Of binary.Greater)
operator_in rank.Comparison (Of word.GreaterOrEqual) = Some (operator.Of binary.GreaterEqual)
operator_in rank.Concatenation (Of word.Dot) = Some (operator.Of binary.Concat)
operator_in rank.Sum (Of word.Plus) = Some (operator.Of binary.Add)
operator_in rank.Sum (Of word.Minus) = Some (operator.Of binary.Sub)
operator_in rank.Product (Of word.Star) = Some (operator.Of binary.Mul)
operator_in rank.Product (Of word.Percent) = Some (operator.Of binary.Rem)
operator_in _ _ = None

-- the ranks, those that bind more tightly later
abbrev pub ranks : List Rank
ranks =
    rank.Or ∷ rank.And ∷ rank.Equality ∷ rank.Comparison
    ∷ rank.Concatenation ∷ rank.Sum ∷ rank.Product ∷ []

-- ranks of which at most one operator joins operands
abbrev pub is_single : Rank → Bool
is_single rank.Equality = true
is_single rank.Comparison = true
is_single _ = false

-- ---- trees of their parts

abbrev pub place : Text → List Expression → Place
place name indices = record { name = name; indices = indices }

abbrev pub item : Option Expression → Expression → Item
item key value = record { key = key; value = value }

abbrev pub link : Operator → Expression → Link
link by operand = record { operator = by; operand = operand }

-- no index, no node
abbrev pub indexed : Expression → List Expression → Expression
indexed base [] = base
indexed base (i ∷ is) = tree.Index base (i ∷ is)

-- the value of a place
abbrev pub value_of : Place → Expression
value_of p = indexed (tree.Variable p.name) p.indices

-- no operator, no node
abbrev pub chained : Expression → List Link → Expression
chained first [] = first
chained first (l ∷ ls) = tree.Chain first (l ∷ ls)

abbrev pub assigned : Place → Assignment → Expression → Expression
assigned to assignment.Plain from = tree.Assign to from
assigned to (assignment.Compound by) from = tree.Compound by to from
assigned to assignment.Coalesce from = tree.CoalesceAssign to from

-- ---- operators between operands

abbrev pub none_yet : List Link → Bool
none_yet [] = true
none_yet (l ∷ links) = false

-- a further operator of this rank may join operands
abbrev pub may_go_on : Rank → List Link → Bool
may_go_on r links = not (is_single r) || none_yet links

-- rank = operand *( operator operand ), or with at most one operator
module _ (operand : Rule Expression) (r : Rank) where
  abbrev pub LinkOf : Rule Link
  LinkOf = do
    by ← Sort (operator_in r)
    right ← operand
    Gives (link by right)

  abbrev pub NextLink : List Link → Rule (List Link)
  NextLink links = When (may_go_on r links) (Made LinkOf (λ l. links ++ l ∷ []))

  abbrev pub Links : Rule (List Link)
  Links = Closed NextLink (λ links. Gives links) []

-- operands joined by operators of these ranks
abbrev pub Ladder : List Rank → Rule Expression → Rule Expression
Ladder [] operand = operand
Ladder (r ∷ more) operand = do
  first ← Ladder more operand
  links ← Links (Ladder more operand) r
  Gives (chained first links)

-- ---- expressions

-- var *( "[" expr "]" ), with indices as they are spelled there
abbrev pub PlaceOf : Rule Expression → Rule Place
PlaceOf index = do
  name ← Variable
  indices ← Many index
  Gives (place name indices)

-- the rules one level of nesting down; an index stands in its brackets
pub record Inner : Type 1 where
  pub expression : Rule Expression
  pub coalesce : Rule Expression
  pub operand : Rule Expression
  pub index : Rule Expression

module _ (level : ℕ) (inner : Inner) where
  -- "[" expr "]"
  abbrev pub Index : Rule Expression
  Index = Nests level (do
    Mark (Of word.OpenBracket)
    at ← inner.expression
    Mark (Of word.CloseBracket)
    Gives at)

  -- place = var *( "[" expr "]" )
  abbrev pub PlaceRule : Rule Place
  PlaceRule = PlaceOf Index

  -- "(" expr ")"
  abbrev pub Group : Rule Expression
  Group = Nests level (do
    Mark (Of word.OpenParenthesis)
    within ← inner.expression
    Mark (Of word.CloseParenthesis)
    Gives within)

  -- item = expr [ "=>" expr ]
  abbrev pub ItemRest : Expression → Rule Item
  ItemRest first =
      Made (Mark (Of word.Arrow) >> inner.expression) (λ value. item (Some first) value)
      or Gives (item None first)

  abbrev pub ItemRule : Rule Item
  ItemRule = inner.expression >>= ItemRest

  -- "[" items "]"
  abbrev pub Literal : Rule Expression
  Literal = Nests level (do
    Mark (Of word.OpenBracket)
    items ← AnyItems (λ _. ItemRule) (Of word.CloseBracket)
    Gives (tree.Array items))

  -- "array" "(" items ")"
  abbrev pub ArrayCall : Rule Expression
  ArrayCall = Nests level (do
    Mark (Of word.Array)
    Mark (Of word.OpenParenthesis)
    items ← AnyItems (λ _. ItemRule) (Of word.CloseParenthesis)
    Gives (tree.Array items))

  -- name "(" args ")"
  abbrev pub Call : Rule Expression
  Call = Nests level (do
    name ← Kind name_in
    Mark (Of word.OpenParenthesis)
    arguments ← AnyItems (λ _. inner.expression) (Of word.CloseParenthesis)
    Gives (tree.Call name arguments))

  -- a name by itself is a constant
  abbrev pub ConstantName : Rule Expression
  ConstantName = Made (Kind name_in) tree.Constant

  -- "isset" "(" places ")"
  abbrev pub Isset : Rule Expression
  Isset = Nests level (do
    Mark (Of word.Isset)
    Mark (Of word.OpenParenthesis)
    places ← SomeItems (λ _. PlaceOf inner.index) (Of word.CloseParenthesis)
    Gives (tree.Isset places))

  -- prim but var = string | "true" | "false" | "null" | "(" expr ")" | "[" items "]"
  --     | "array" "(" items ")" | name "(" args ")" | name
  abbrev pub Primary : Rule Expression
  Primary =
      Made (Kind text_in) tree.Text or Sort constant_in or Group or Literal or ArrayCall or Call
      or ConstantName

  -- post = number | "isset" "(" places ")" | prim *( "[" expr "]" )
  abbrev pub Postfix : Rule Expression
  Postfix =
      Made (Kind number_in) tree.Number
      or Isset
      or Made PlaceRule value_of
      or (Primary >>= (λ base. Made (Many Index) (indexed base)))

  -- ( "!" | "-" | "+" ) un
  abbrev pub Prefixed : Rule Expression
  Prefixed = Nests level (do
    by ← Sort prefix_in
    of ← inner.operand
    Gives (tree.Unary by of))

  -- ( "++" | "--" ) place
  abbrev pub SteppedFirst : Rule Expression
  SteppedFirst = Nests level (do
    by ← Sort step_in
    of ← PlaceOf inner.index
    Gives (tree.Step by StepFirst of))

  -- place ( "++" | "--" )
  abbrev pub SteppedLast : Rule Expression
  SteppedLast = do
    of ← PlaceRule
    by ← Sort step_in
    Gives (tree.Step by ValueFirst of)

  -- un = ( "!" | "-" | "+" ) un | ( "++" | "--" ) place | place ( "++" | "--" ) | post
  abbrev pub OperandRule : Rule Expression
  OperandRule = Prefixed or SteppedFirst or SteppedLast or Postfix

  -- coal = or [ "??" coal ]
  abbrev pub CoalesceRest : Expression → Rule Expression
  CoalesceRest left =
      Made (Nests level (Mark (Of word.Coalesce) >> inner.coalesce))
      (λ right. tree.Coalesce left right)
      or Gives left

  abbrev pub CoalesceRule : Rule Expression
  CoalesceRule = Ladder ranks OperandRule >>= CoalesceRest

  -- tern = coal [ "?" [ expr ] ":" coal ]
  abbrev pub Branches : Expression → Rule Expression
  Branches test = do
    Mark (Of word.Question)
    middle ← Perhaps (Nests level inner.expression)
    Mark (Of word.Colon)
    otherwise ← CoalesceRule
    Gives (tree.Conditional test middle otherwise)

  abbrev pub ConditionalRest : Expression → Rule Expression
  ConditionalRest test = Branches test or Gives test

  abbrev pub ConditionalRule : Rule Expression
  ConditionalRule = CoalesceRule >>= ConditionalRest

  -- ( "include" | "require" ) expr
  abbrev pub IncludeRule : Rule Expression
  IncludeRule = Nests level (do
    how ← Sort inclusion_in
    of ← inner.expression
    Gives (tree.Include how of))

  -- place "[" "]" "=" expr
  abbrev pub PushRule : Rule Expression
  PushRule = do
    to ← PlaceRule
    Nests level (Mark (Of word.OpenBracket) >> Mark (Of word.CloseBracket))
    from ← Nests level (Mark (Of word.Assign) >> inner.expression)
    Gives (tree.Push to from)

  -- place ( "=" | "+=" | "-=" | "*=" | ".=" | "%=" | "??=" ) expr
  abbrev pub AssignmentRule : Rule Expression
  AssignmentRule = do
    to ← PlaceRule
    Nests level (do
      how ← Sort assignment_in
      from ← inner.expression
      Gives (assigned to how from))

  -- expr = include | push | assignment | tern
  abbrev pub ExpressionRule : Rule Expression
  ExpressionRule = IncludeRule or PushRule or AssignmentRule or ConditionalRule

-- the rules one level down, where so many levels are left
abbrev pub inner : ℕ → Inner
inner zero = record {
  expression = λ ts a. ⊥;
  coalesce = λ ts a. ⊥;
  operand = λ ts a. ⊥;
  index = λ ts a. ⊥;
}
inner (suc level) = record {
  expression = ExpressionRule level (inner level);
  coalesce = CoalesceRule level (inner level);
  operand = OperandRule level (inner level);
  index = Index level (inner level);
}

-- expressions and places with at most so many levels of nesting
abbrev pub IsExpression : ℕ → Rule Expression
IsExpression level = ExpressionRule level (inner level)

abbrev pub IsPlace : ℕ → Rule Place
IsPlace level = PlaceRule level (inner level)
