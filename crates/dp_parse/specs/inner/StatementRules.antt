-- How statements are read: the rules of the grammar, with each choice made by the next token.
use Rattle.std.specs.Prelude.{ℕ, zero, suc, ◌-◌, Bool, true, false, not, ◌&&◌, nat_lt, if◌then◌else◌, List, [], ◌∷◌, ◌++◌, take, drop, length, Option, Some, None, Ok, Err}
use Rattle.std.specs.declared.ops.ControlFlow.{ControlFlow}
use Rattle.std.specs.declared.ops.ControlFlow.TheVariants.{Continue, Break}
use Rattle.dp_parse.specs.declared.ended.Ended.{Ended}
use Rattle.dp_parse.specs.declared.ended.Body.{Body}
use Rattle.dp_parse.specs.declared.ended.Parts.{Parts}
use Rattle.dp_expressions.specs.declared.operand.Part.TheVariants as part
use Rattle.dp_token_rules.specs.declared.terminal.Terminal.TheVariants.{Of}
use Rattle.dp_lexer.specs.declared.token.Word.TheVariants as word
use Rattle.dp_token_rules.specs.declared.terminal.Terminal.{Terminal}
use Rattle.dp_token_rules.specs.declared.terminal.Terminal.TheVariants as terminal
use Rattle.dp_tree.specs.declared.tree.Arm.{Arm}
use Rattle.dp_tree.specs.declared.tree.Binding.{Binding}
use Rattle.dp_tree.specs.declared.tree.Definition.{Definition}
use Rattle.dp_tree.specs.declared.tree.Expression.{Expression}
use Rattle.dp_tree.specs.declared.tree.Function.{Function}
use Rattle.dp_tree.specs.declared.tree.Place.{Place}
use Rattle.dp_tree.specs.declared.tree.Statement.{Statement}
use Rattle.dp_tree.specs.declared.tree.StatementKind.{StatementKind}
use Rattle.dp_tree.specs.declared.tree.StatementKind.TheVariants as tree
use Rattle.dp_lexer.specs.declared.token.Token.{Token}
use Rattle.dp_grammar.specs.declared.refusal.Refusal.{Refusal}
use Rattle.dp_grammar.specs.declared.refusal.Refusal.TheVariants.{Unexpected, TooDeep, Memory}
use Rattle.dp_token_rules.specs.Terminals.{is, head, terminal_of}
use Rattle.dp_token_rules.specs.Lines.{line_of}
use Rattle.dp_token_rules.specs.inner.Input.{Outcome, Reader, ◌>>=◌, ◌>>◌, gives, made, refuse, mark, enter, closed, kind, variable}
use Rattle.dp_token_rules.specs.inner.ListReaders.{plain_items, some_items, any_plain_items, any_items, many}
use Rattle.dp_token_rules.specs.TokenValues.{Text, name_in, number_up_to}
use Rattle.dp_expressions.specs.inner.Readers.{reading, reading_place}
use Rattle.dp_parse.specs.Statements.{ends_constant, definition_of}
use Rattle.dp_parse.specs.Statements.{ended, whole, binding, parameter_in, Arms, with_arm, stated, Depth, function_of, no_parts, with_statement, with_function}

unfoldable pub on_its_line : Reader Ended → Reader Body
on_its_line read ts = made read (stated (line_of ts)) ts

-- statements up to the closing brace
module _ (body : Reader Body) where
  abbrev pub bodies_step : List Statement → Reader (ControlFlow (List Statement) (List Statement))
  bodies_step all ts =
      if is (Of word.CloseBrace) (head ts)
      then made (made (mark (Of word.CloseBrace)) (λ _. all)) Break ts
      else made (made body (λ b. all ++ b.statement ∷ [])) Continue ts

  unfoldable pub bodies : Reader (List Statement)
  bodies = closed bodies_step []

  unfoldable pub braced : Reader Ended
  braced = do
    mark (Of word.OpenBrace)
    all ← bodies
    gives (whole (tree.Block all))

  -- the body of a head
  unfoldable pub head_body : Reader Body
  head_body ts = if is (Of word.OpenBrace) (head ts) then on_its_line braced ts else body ts

unfoldable pub empty : Reader Ended
empty = made (mark (Of word.Semicolon)) (λ _. whole tree.Empty)

unfoldable pub bound_rest : Text → Reader Binding
bound_rest first ts =
    if is (Of word.Arrow) (head ts)
    then made (mark (Of word.Arrow) >> variable) (λ value. binding (Some first) value) ts
    else Ok (binding None first, ts)

unfoldable pub bound : Reader Binding
bound = variable >>= bound_rest

unfoldable pub global_rule : Reader Ended
global_rule =
    made (mark (Of word.Global) >> plain_items (λ _. variable) (Of word.Semicolon))
    (λ names. whole (tree.Global names))

unfoldable pub exit_word : Reader ℕ
exit_word ts = if is (Of word.Exit) (head ts) then mark (Of word.Exit) ts else mark (Of word.Die) ts

-- The number is how many levels of bodies are left, and the next in how many loops the statement
-- stands. `body` reads a statement in a body one level down, in so many loops.
module _ (level : ℕ) (loops : ℕ) (expression : Reader Expression) (place : Reader Place)
    (body : ℕ → Reader Body) where
  unfoldable pub perform : Reader Ended
  perform = do
    value ← expression
    mark (Of word.Semicolon)
    gives (whole (tree.Expression value))

  unfoldable pub echo : Reader Ended
  echo = do
    mark (Of word.Echo)
    values ← plain_items (λ _. expression) (Of word.Semicolon)
    gives (whole (tree.Echo values))

  unfoldable pub block : Reader Ended
  block = enter level >> braced (body loops)

  unfoldable pub head_test : Reader Expression
  head_test = do
    mark (Of word.OpenParenthesis)
    found ← expression
    mark (Of word.CloseParenthesis)
    gives found

  -- an arm behind its `elseif` or its `else if`
  unfoldable pub next_arm : List Arm → ℕ → Reader Arms
  next_arm arms line = do
    found ← head_test
    b ← head_body (body loops)
    gives (with_arm arms line found b)

  unfoldable pub otherwise : List Arm → Reader Ended
  otherwise arms =
      made (head_body (body loops)) (λ b. ended (tree.If arms (Some b.statement)) b.is_open)

  -- behind an `else` on this line
  unfoldable pub behind_else : List Arm → ℕ → Reader (ControlFlow Ended Arms)
  behind_else arms line ts =
      if is (Of word.If) (head ts) then made (mark (Of word.If) >> next_arm arms line) Continue ts
      else made (otherwise arms) Break ts

  abbrev pub arms_step : Arms → Reader (ControlFlow Ended Arms)
  arms_step a ts =
      if not a.1 && is (Of word.ElseIf) (head ts)
      then made (mark (Of word.ElseIf) >>= next_arm a.0) Continue ts
      else if not a.1 && is (Of word.Else) (head ts)
      then (mark (Of word.Else) >>= behind_else a.0) ts
      else Ok (Break (ended (tree.If a.0 None) true), ts)

  unfoldable pub arms : Arms → Reader Ended
  arms first = closed arms_step first

  unfoldable pub if_rule : Reader Ended
  if_rule = do
    enter level
    line ← mark (Of word.If)
    first ← next_arm [] line
    arms first

  unfoldable pub loop_body : (Statement → StatementKind) → Reader Ended
  loop_body of = made (head_body (body (suc loops))) (λ b. ended (of b.statement) b.is_open)

  unfoldable pub while_rule : Reader Ended
  while_rule = do
    enter level
    mark (Of word.While)
    found ← head_test
    loop_body (λ b. tree.While found b)

  unfoldable pub do_while : Reader Ended
  do_while = do
    enter level
    mark (Of word.Do)
    b ← head_body (body (suc loops))
    line ← mark (Of word.While)
    found ← head_test
    mark (Of word.Semicolon)
    gives (whole (tree.DoWhile b.statement line found))

  unfoldable pub for_rule : Reader Ended
  for_rule = do
    enter level
    mark (Of word.For)
    mark (Of word.OpenParenthesis)
    before ← any_plain_items (λ _. expression) (Of word.Semicolon)
    tests ← any_plain_items (λ _. expression) (Of word.Semicolon)
    after ← any_plain_items (λ _. expression) (Of word.CloseParenthesis)
    loop_body (λ b. tree.For before tests after b)

  abbrev pub foreach_body : Expression → Binding → Reader Ended
  foreach_body subject found = loop_body (λ b. tree.Foreach subject found b)

  -- behind the subject
  abbrev pub foreach_bound : Expression → Reader Ended
  foreach_bound subject = do
    mark (Of word.As)
    found ← bound
    mark (Of word.CloseParenthesis)
    foreach_body subject found

  unfoldable pub foreach : Reader Ended
  foreach = do
    enter level
    mark (Of word.Foreach)
    mark (Of word.OpenParenthesis)
    subject ← expression
    foreach_bound subject

  unfoldable pub levels : Reader ℕ
  levels ts = if is terminal.Number (head ts) then kind (number_up_to loops) ts else Ok (1, ts)

  unfoldable pub loops_rule : Reader ℕ
  loops_rule = levels >>= (λ n. made (mark (Of word.Semicolon)) (λ _. n))

  unfoldable pub break_rule : Reader Ended
  break_rule ts =
      if nat_lt 0 loops
      then made (mark (Of word.Break) >> loops_rule) (λ n. whole (tree.Break n)) ts
      else refuse ts

  unfoldable pub continue_rule : Reader Ended
  continue_rule ts =
      if nat_lt 0 loops
      then made (mark (Of word.Continue) >> loops_rule) (λ n. whole (tree.Continue n)) ts
      else refuse ts

  unfoldable pub maybe_up_to : Terminal → Reader (Option Expression)
  maybe_up_to close ts =
      if is close (head ts) then made (mark close) (λ _. None) ts
      else (expression >>= (λ value. made (mark close) (λ _. Some value))) ts

  unfoldable pub return_rule : Reader Ended
  return_rule =
      made (mark (Of word.Return) >> maybe_up_to (Of word.Semicolon))
      (λ value. whole (tree.Return value))

  unfoldable pub unset : Reader Ended
  unset = do
    mark (Of word.Unset)
    mark (Of word.OpenParenthesis)
    places ← some_items (λ _. place) (Of word.CloseParenthesis)
    mark (Of word.Semicolon)
    gives (whole (tree.Unset places))

  unfoldable pub exit_value : Reader (Option Expression)
  exit_value ts =
      if is (Of word.OpenParenthesis) (head ts)
      then (mark (Of word.OpenParenthesis) >> maybe_up_to (Of word.CloseParenthesis)) ts
      else Ok (None, ts)

  unfoldable pub exit : Reader Ended
  exit = do
    exit_word
    value ← exit_value
    mark (Of word.Semicolon)
    gives (whole (tree.Exit value))

  -- a statement that begins with this sort of token
  unfoldable pub by_keyword : Terminal → Reader Ended
  by_keyword (Of word.Echo) = echo
  by_keyword (Of word.OpenBrace) = block
  by_keyword (Of word.Semicolon) = empty
  by_keyword (Of word.If) = if_rule
  by_keyword (Of word.While) = while_rule
  by_keyword (Of word.Do) = do_while
  by_keyword (Of word.For) = for_rule
  by_keyword (Of word.Foreach) = foreach
  by_keyword (Of word.Break) = break_rule
  by_keyword (Of word.Continue) = continue_rule
  by_keyword (Of word.Return) = return_rule
  by_keyword (Of word.Global) = global_rule
  by_keyword (Of word.Unset) = unset
  by_keyword (Of word.Exit) = exit
  by_keyword (Of word.Die) = exit
  by_keyword _ = perform

  unfoldable pub any_statement : Reader Ended
  any_statement ts = by_keyword (head ts) ts

-- what reads a statement with so many levels, in so many loops, over what reads bodies one level
-- down
abbrev pub statement_over : (expressions level : ℕ) → (ℕ → Reader Body) → ℕ → Reader Body
statement_over expressions level body loops =
    on_its_line (any_statement level loops
    (reading expressions part.Whole) (reading_place expressions) body)

-- what reads a statement in a body one level down
unfoldable pub body_below : (expressions : ℕ) → ℕ → ℕ → Reader Body
body_below expressions zero loops = refuse
body_below expressions (suc level) loops =
    statement_over expressions level (body_below expressions level) loops

-- what reads a statement with so many levels, in so many loops
unfoldable pub statement : (expressions level : ℕ) → ℕ → Reader Body
statement expressions level loops =
    statement_over expressions level (body_below expressions level) loops

-- ---- files

unfoldable pub function_rule : Depth → Reader Function
function_rule depth = do
  enter depth.bodies
  line ← mark (Of word.Function)
  name ← kind name_in
  mark (Of word.OpenParenthesis)
  parameters ← any_items (λ found. kind (parameter_in found)) (Of word.CloseParenthesis)
  mark (Of word.OpenBrace)
  all ← bodies (body_below depth.expressions depth.bodies 0)
  gives (function_of line name parameters all)

-- a definition, with its value as it is read there
unfoldable pub definition : Reader Expression → Reader Definition
definition expression = do
  name ← kind name_in
  mark (Of word.Assign)
  value ← expression
  gives (definition_of name value)

abbrev pub next_definition : Reader Expression → Reader Definition
next_definition expression = mark (Of word.Comma) >> definition expression

unfoldable pub definitions : Reader Expression → Reader (List Definition)
definitions expression = do
  mark terminal.Const
  first ← definition expression
  more ← many (is (Of word.Comma)) (next_definition expression)
  gives (first ∷ more)

-- how many of these tokens stand before the first with which a constant's expression does not go
-- on, where they stand behind a name or not
abbrev pub constants_len : Bool → List Token → ℕ
constants_len named [] = 0
constants_len named (t ∷ ts) =
    if ends_constant named (terminal_of t.kind) then 0
    else suc (constants_len (is terminal.Name (terminal_of t.kind)) ts)

-- a refusal among the first so many of all, by how many are left of all
abbrev pub among_all : ℕ → ℕ → Refusal → Refusal
among_all all first (Unexpected left) = Unexpected (all - (first - left))
among_all all first (TooDeep left) = TooDeep (all - (first - left))
among_all all first Memory = Memory

-- what was read of the first so many of these tokens
abbrev pub of_first : {A : Type 0} → List Token → ℕ → Outcome A → Outcome A
of_first ts first (Ok x) = Ok (x.0, drop (first - length x.1) ts)
of_first ts first (Err refusal) = Err (among_all (length ts) first refusal)

-- what is read of those tokens alone
unfoldable pub of_constants : {A : Type 0} → Reader A → Reader A
of_constants read ts =
    of_first ts (constants_len false ts) (read (take (constants_len false ts) ts))

unfoldable pub constants_rule : Reader Expression → Reader Ended
constants_rule expression = do
  all ← of_constants (definitions expression)
  mark (Of word.Semicolon)
  gives (whole (tree.Constants all))

abbrev pub file_step : Depth → Parts → Reader (ControlFlow Parts Parts)
file_step depth parts ts =
    if is terminal.End (head ts) then Ok (Break parts, ts)
    else if is (Of word.Function) (head ts)
    then made (made (function_rule depth) (with_function parts)) Continue ts
    else if is terminal.Const (head ts)
    then made (made (on_its_line (constants_rule (reading depth.expressions part.Whole)))
    (with_statement parts)) Continue ts
    else made (made (statement depth.expressions depth.bodies 0) (with_statement parts)) Continue ts

unfoldable pub file : Depth → Reader Parts
file depth = closed (file_step depth) no_parts

-- an expression by itself, up to the end
unfoldable pub at_end : {A : Type 0} → A → Reader A
at_end a ts = if is terminal.End (head ts) then Ok (a, ts) else refuse ts

unfoldable pub semicolon : Expression → Reader Expression
semicolon e ts =
    if is (Of word.Semicolon) (head ts)
    then (made (mark (Of word.Semicolon)) (λ _. e) >>= at_end) ts
    else at_end e ts

unfoldable pub expression_text : ℕ → Reader Expression
expression_text level = reading level part.Whole >>= semicolon
