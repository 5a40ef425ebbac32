-- How expressions are read: the rules of the grammar, with each choice made by the next token.
use Rattle.std.specs.Prelude.{ℕ, zero, suc, Bool, true, false, ◌&&◌, if◌then◌else◌, List, [], ◌∷◌, ◌++◌, Option, Some, None, Ok}
use Rattle.std.specs.declared.ops.ControlFlow.{ControlFlow}
use Rattle.std.specs.declared.ops.ControlFlow.TheVariants.{Continue, Break}
use Rattle.dp_expressions.specs.declared.operand.Operand.{Operand}
use Rattle.dp_expressions.specs.declared.operand.Operand.TheVariants as operand
use Rattle.dp_expressions.specs.declared.operand.Part.{Part}
use Rattle.dp_expressions.specs.declared.operand.Part.TheVariants as part
use Rattle.dp_expressions.specs.declared.rank.Rank.{Rank}
use Rattle.dp_token_rules.specs.declared.terminal.Terminal.TheVariants.{Of}
use Rattle.dp_lexer.specs.declared.token.Word.TheVariants as word
use Rattle.dp_token_rules.specs.declared.terminal.Terminal.{Terminal}
use Rattle.dp_token_rules.specs.declared.terminal.Terminal.TheVariants as terminal
use Rattle.dp_tree.specs.declared.tree.Expression.{Expression}
use Rattle.dp_tree.specs.declared.tree.Expression.TheVariants as tree
use Rattle.dp_tree.specs.declared.tree.Place.{Place}
use Rattle.dp_tree.specs.declared.tree.Item.{Item}
use Rattle.dp_tree.specs.declared.tree.Link.{Link}
use Rattle.dp_tree.specs.declared.tree.Order.TheVariants.{StepFirst, ValueFirst}
use Rattle.dp_token_rules.specs.Terminals.{is, head}
use Rattle.dp_token_rules.specs.inner.Input.{Reader, ◌>>=◌, ◌>>◌, gives, made, refuse, sort, kind, sees, variable, mark, enter, closed}
use Rattle.dp_token_rules.specs.inner.ListReaders.{some_items, any_items, many}
use Rattle.dp_expressions.specs.Grammar.{prefix_in, step_in, inclusion_in, assignment_in, constant_in, operator_in, may_go_on, ranks, place, item, link, indexed, value_of, chained, assigned}
use Rattle.dp_token_rules.specs.TokenValues.{Text, name_in, number_in, text_in}

-- a token with which an expression may begin
abbrev pub begins_expression : Terminal → Bool
begins_expression terminal.Variable = true
begins_expression terminal.Name = true
begins_expression terminal.Number = true
begins_expression terminal.Text = true
begins_expression (Of word.Null) = true
begins_expression (Of word.True) = true
begins_expression (Of word.False) = true
begins_expression (Of word.Array) = true
begins_expression (Of word.Isset) = true
begins_expression (Of word.Include) = true
begins_expression (Of word.Require) = true
begins_expression (Of word.OpenParenthesis) = true
begins_expression (Of word.OpenBracket) = true
begins_expression (Of word.Bang) = true
begins_expression (Of word.Minus) = true
begins_expression (Of word.Plus) = true
begins_expression (Of word.Increment) = true
begins_expression (Of word.Decrement) = true
begins_expression _ = false

-- an operand as an expression. A push is none before its `=`, and counts as its place.
abbrev pub tree_of : Operand → Expression
tree_of (operand.Place p) = value_of p
tree_of (operand.Push p) = value_of p
tree_of (operand.Other e) = e

-- ---- operators between operands

module _ (operand : Reader Expression) (r : Rank) where
  unfoldable pub link_of : Reader Link
  link_of = do
    by ← sort (operator_in r)
    right ← operand
    gives (link by right)

  abbrev pub links_step : List Link → Reader (ControlFlow (List Link) (List Link))
  links_step links ts =
      if may_go_on r links && sees (operator_in r) ts
      then made (made link_of (λ l. links ++ l ∷ [])) Continue ts
      else Ok (Break links, ts)

  unfoldable pub links_of : Reader (List Link)
  links_of = closed links_step []

unfoldable pub ladder : List Rank → Reader Expression → Reader Expression
ladder [] read = read
ladder (r ∷ more) read = do
  first ← ladder more read
  links ← links_of (ladder more read) r
  gives (chained first links)

-- the same, where the first operand was read before
unfoldable pub ladder_from : List Rank → Reader Expression → Expression → Reader Expression
ladder_from [] read first = gives first
ladder_from (r ∷ more) read first = do
  left ← ladder_from more read first
  links ← links_of (ladder more read) r
  gives (chained left links)

-- ---- expressions. The number is how many levels are left, and `inner` reads one level down.

module _ (level : ℕ) (inner : Part → Reader Expression) where
  unfoldable pub index : Reader Expression
  index = do
    enter level
    mark (Of word.OpenBracket)
    at ← inner part.Whole
    mark (Of word.CloseBracket)
    gives at

  unfoldable pub indices : Reader (List Expression)
  indices = many (is (Of word.OpenBracket)) index

  unfoldable pub place_rule : Reader Place
  place_rule = do
    name ← variable
    found ← indices
    gives (place name found)

  -- a place one level down
  unfoldable pub place_below : Reader Place
  place_below = do
    name ← variable
    found ← many (is (Of word.OpenBracket)) (inner part.Index)
    gives (place name found)

  unfoldable pub group : Reader Expression
  group = do
    enter level
    mark (Of word.OpenParenthesis)
    within ← inner part.Whole
    mark (Of word.CloseParenthesis)
    gives within

  unfoldable pub item_rest : Expression → Reader Item
  item_rest first ts =
      if is (Of word.Arrow) (head ts)
      then made (mark (Of word.Arrow) >> inner part.Whole) (λ value. item (Some first) value) ts
      else Ok (item None first, ts)

  unfoldable pub item_rule : Reader Item
  item_rule = inner part.Whole >>= item_rest

  unfoldable pub literal : Reader Expression
  literal = do
    enter level
    mark (Of word.OpenBracket)
    items ← any_items (λ _. item_rule) (Of word.CloseBracket)
    gives (tree.Array items)

  unfoldable pub array_call : Reader Expression
  array_call = do
    enter level
    mark (Of word.Array)
    mark (Of word.OpenParenthesis)
    items ← any_items (λ _. item_rule) (Of word.CloseParenthesis)
    gives (tree.Array items)

  -- a call, behind its name
  unfoldable pub call : Text → Reader Expression
  call name = do
    enter level
    mark (Of word.OpenParenthesis)
    arguments ← any_items (λ _. inner part.Whole) (Of word.CloseParenthesis)
    gives (tree.Call name arguments)

  -- a name is that of a call where a parenthesis comes next, and else that of a constant
  unfoldable pub behind_name : Text → Reader Expression
  behind_name name ts =
      if is (Of word.OpenParenthesis) (head ts) then call name ts else Ok (tree.Constant name, ts)

  unfoldable pub named : Reader Expression
  named = kind name_in >>= behind_name

  unfoldable pub isset : Reader Expression
  isset = do
    enter level
    mark (Of word.Isset)
    mark (Of word.OpenParenthesis)
    places ← some_items (λ _. place_below) (Of word.CloseParenthesis)
    gives (tree.Isset places)

  unfoldable pub primary : Reader Expression
  primary ts =
      if is terminal.Text (head ts) then made (kind text_in) tree.Text ts
      else if sees constant_in ts then sort constant_in ts
      else if is (Of word.OpenParenthesis) (head ts) then group ts
      else if is (Of word.OpenBracket) (head ts) then literal ts
      else if is (Of word.Array) (head ts) then array_call ts
      else if is terminal.Name (head ts) then named ts
      else refuse ts

  unfoldable pub prefixed : Reader Expression
  prefixed = do
    enter level
    by ← sort prefix_in
    of ← inner part.Alone
    gives (tree.Unary by of)

  unfoldable pub stepped_first : Reader Expression
  stepped_first = do
    enter level
    by ← sort step_in
    of ← place_below
    gives (tree.Step by StepFirst of)

  -- an operand that begins with no variable
  unfoldable pub other : Reader Expression
  other ts =
      if sees prefix_in ts then prefixed ts
      else if sees step_in ts then stepped_first ts
      else if is terminal.Number (head ts) then made (kind number_in) tree.Number ts
      else if is (Of word.Isset) (head ts) then isset ts
      else (primary >>= (λ base. made indices (indexed base))) ts

  -- behind a place
  unfoldable pub step_last : Place → Reader Operand
  step_last p ts =
      if sees step_in ts
      then made (sort step_in) (λ by. operand.Other (tree.Step by ValueFirst p)) ts
      else Ok (operand.Place p, ts)

  unfoldable pub alone : Reader Expression
  alone ts =
      if is terminal.Variable (head ts) then made (place_rule >>= step_last) tree_of ts
      else other ts

  -- an index or, where an assignment may follow, `[]`
  unfoldable pub index_or_push :
      Text → List Expression → Reader (ControlFlow Operand (List Expression))
  index_or_push name found = do
    enter level
    mark (Of word.OpenBracket)
    (λ ts.
        if is (Of word.CloseBracket) (head ts)
        then made (mark (Of word.CloseBracket)) (λ _. Break (operand.Push (place name found))) ts
        else made (inner part.Whole >>= (λ at. mark (Of word.CloseBracket) >> gives at))
        (λ at. Continue (found ++ at ∷ [])) ts)

  abbrev pub opening_step : Text → List Expression → Reader (ControlFlow Operand (List Expression))
  opening_step name found ts =
      if is (Of word.OpenBracket) (head ts) then index_or_push name found ts
      else made (step_last (place name found)) Break ts

  -- what an expression begins with, where it is a variable
  unfoldable pub opening_place : Reader Operand
  opening_place = variable >>= (λ name. closed (opening_step name) [])

  unfoldable pub opening : Reader Operand
  opening ts =
      if is terminal.Variable (head ts) then opening_place ts
      else made other operand.Other ts

  -- what stands right of a `??`, with the operator
  abbrev pub coalesce_right : Reader Expression
  coalesce_right = enter level >> (mark (Of word.Coalesce) >> inner part.Coalesce)

  unfoldable pub coalesce_rest : Expression → Reader Expression
  coalesce_rest left ts =
      if is (Of word.Coalesce) (head ts)
      then made coalesce_right (λ right. tree.Coalesce left right) ts
      else Ok (left, ts)

  unfoldable pub coalesce : Reader Expression
  coalesce = ladder ranks alone >>= coalesce_rest

  -- the middle of a conditional, which may be missing
  unfoldable pub middle : Reader (Option Expression)
  middle ts =
      if begins_expression (head ts) then made (enter level >> inner part.Whole) Some ts
      else Ok (None, ts)

  -- the last part of a conditional, with its colon
  abbrev pub last_branch : Expression → Option Expression → Reader Expression
  last_branch test between = do
    mark (Of word.Colon)
    otherwise ← coalesce
    gives (tree.Conditional test between otherwise)

  unfoldable pub branches : Expression → Reader Expression
  branches test = do
    mark (Of word.Question)
    between ← middle
    last_branch test between

  unfoldable pub conditional_rest : Expression → Reader Expression
  conditional_rest test ts =
      if is (Of word.Question) (head ts) then branches test ts else Ok (test, ts)

  -- an expression whose first operand was read
  unfoldable pub going_on : Expression → Reader Expression
  going_on first = ladder_from ranks alone first >>= coalesce_rest >>= conditional_rest

  unfoldable pub included : Reader Expression
  included = do
    enter level
    how ← sort inclusion_in
    of ← inner part.Whole
    gives (tree.Include how of)

  unfoldable pub pushed : Place → Reader Expression
  pushed to = do
    enter level
    mark (Of word.Assign)
    from ← inner part.Whole
    gives (tree.Push to from)

  unfoldable pub assignment : Place → Reader Expression
  assignment to = do
    enter level
    how ← sort assignment_in
    from ← inner part.Whole
    gives (assigned to how from)

  unfoldable pub rest_of : Operand → Reader Expression
  rest_of (operand.Push to) = pushed to
  rest_of (operand.Other first) = going_on first
  rest_of (operand.Place to) =
      λ ts. if sees assignment_in ts then assignment to ts else going_on (value_of to) ts

  unfoldable pub whole : Reader Expression
  whole ts = if sees inclusion_in ts then included ts else (opening >>= rest_of) ts

  unfoldable pub reads_part : Part → Reader Expression
  reads_part part.Whole = whole
  reads_part part.Coalesce = coalesce
  reads_part part.Alone = alone
  reads_part part.Index = index

-- what reads the parts of expressions one level down
unfoldable pub below : ℕ → Part → Reader Expression
below zero = λ _. refuse
below (suc level) = reads_part level (below level)

-- what reads the parts of expressions with so many levels
unfoldable pub reading : ℕ → Part → Reader Expression
reading level = reads_part level (below level)

unfoldable pub reading_place : ℕ → Reader Place
reading_place level = place_rule level (below level)

-- a reader where so many levels are left
abbrev pub within : {R : Type 0} → (ℕ → (Part → Reader Expression) → R) → ℕ → R
within reader level = reader level (below level)
