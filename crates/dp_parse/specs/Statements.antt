-- The grammar of statements (PHP manual, "Control Structures" and "Functions"; what is left out is
-- our own).
use Rattle.std.specs.Prelude.{◌≡◌, ℕ, zero, suc, Bool, true, false, not, ◌&&◌, ◌||◌, nat_lt, if◌then◌else◌, List, [], ◌∷◌, ◌++◌, Option, Some, None}
use Rattle.std.specs.List.{list_any}
use Rattle.std.specs.Str.{bytes_eq}
use Rattle.dp_lexer.specs.declared.token.Token.{Token}
use Rattle.dp_lexer.specs.declared.token.TokenKind.{TokenKind}
use Rattle.dp_lexer.specs.declared.token.TokenKind.TheVariants as kind
use Rattle.dp_parse.specs.declared.ended.Ended.{Ended}
use Rattle.dp_parse.specs.declared.ended.Body.{Body}
use Rattle.dp_parse.specs.declared.ended.Parts.{Parts}
use Rattle.dp_token_rules.specs.declared.terminal.Terminal.TheVariants.{Of}
use Rattle.dp_lexer.specs.declared.token.Word.TheVariants as word
use Rattle.dp_token_rules.specs.declared.terminal.Terminal.{Terminal}
use Rattle.dp_token_rules.specs.declared.terminal.Terminal.TheVariants as terminal
use Rattle.dp_token_rules.specs.Terminals.{is, terminal_of}
use Rattle.dp_tree.specs.declared.tree.Arm.{Arm}
use Rattle.dp_tree.specs.declared.tree.Binding.{Binding}
use Rattle.dp_tree.specs.declared.tree.Definition.{Definition}
use Rattle.dp_tree.specs.declared.tree.Expression.{Expression}
use Rattle.dp_tree.specs.declared.tree.Function.{Function}
use Rattle.dp_tree.specs.declared.tree.Place.{Place}
use Rattle.dp_tree.specs.declared.tree.Statement.{Statement}
use Rattle.dp_tree.specs.declared.tree.StatementKind.{StatementKind}
use Rattle.dp_tree.specs.declared.tree.StatementKind.TheVariants as tree
use Rattle.dp_token_rules.specs.Rules.{Rule, ◌>>=◌, ◌>>◌, ◌or◌, Gives, Made, Mark, When, Nests, Without, OnLine, Closed, Many, Perhaps}
use Rattle.dp_token_rules.specs.Lists.{PlainItems, SomeItems, AnyPlainItems, AnyItems}
use Rattle.dp_expressions.specs.Grammar.{IsExpression, IsPlace}
use Rattle.dp_token_rules.specs.TokenValues.{Text, Variable, Kind, variable_in, name_in, number_up_to}

abbrev pub ended : StatementKind → Bool → Ended
ended k is_open = record { kind = k; is_open = is_open }

-- a statement with its end: no `else` belongs to it
abbrev pub whole : StatementKind → Ended
whole k = ended k false

abbrev pub arm : ℕ → Expression → Statement → Arm
arm line test body = record { line = line; test = test; body = body }

abbrev pub binding : Option Text → Text → Binding
binding key value = record { key = key; value = value }

-- a name that is none of these
abbrev pub parameter_in : List Text → TokenKind → Option Text
parameter_in found (kind.Variable name) =
    if list_any (λ other. bytes_eq other name) found then None else variable_in (kind.Variable name)
parameter_in found _ = None

abbrev pub stated : ℕ → Ended → Body
stated line e = record { statement = record { line = line; kind = e.kind }; is_open = e.is_open }

-- a statement has the line of its first token
abbrev pub OnItsLine : Rule Ended → Rule Body
OnItsLine rule = OnLine (λ line. Made rule (stated line))

-- *stmt "}"
abbrev pub Bodies : Rule Body → Rule (List Statement)
Bodies body =
    Closed (λ all. Made body (λ b. all ++ b.statement ∷ []))
    (λ all. Made (Mark (Of word.CloseBrace)) (λ _. all)) []

-- "{" *stmt "}"
abbrev pub Braced : Rule Body → Rule Ended
Braced body = do
  Mark (Of word.OpenBrace)
  all ← Bodies body
  Gives (whole (tree.Block all))

-- The body of a head is a statement. Where it is one in braces, it is no block that counts for
-- itself.
abbrev pub HeadBody : Rule Body → Rule Body
HeadBody body = OnItsLine (Braced body) or Without (Of word.OpenBrace) body

-- ";"
abbrev pub Empty : Rule Ended
Empty = Made (Mark (Of word.Semicolon)) (λ _. whole tree.Empty)

-- elseif = "elseif" | "else" "if"
abbrev pub ElseIf : Rule ℕ
ElseIf =
    Mark (Of word.ElseIf)
    or (Mark (Of word.Else) >>= (λ line. Made (Mark (Of word.If)) (λ _. line)))

-- the arms so far, of which the last one ends with this body
abbrev pub Arms : Type 0
Arms = List Arm × Bool

abbrev pub with_arm : List Arm → ℕ → Expression → Body → Arms
with_arm arms line test b = (arms ++ arm line test b.statement ∷ [], b.is_open)

-- var [ "=>" var ]
abbrev pub Bound : Rule Binding
Bound = Variable >>= (λ first.
    Made (Mark (Of word.Arrow) >> Variable) (λ value. binding (Some first) value)
    or Gives (binding None first))

-- "global" var *( "," var ) ";"
abbrev pub GlobalRule : Rule Ended
GlobalRule =
    Made (Mark (Of word.Global) >> PlainItems (λ _. Variable) (Of word.Semicolon))
    (λ names. whole (tree.Global names))

-- The number is how many levels of bodies are left, and the next in how many loops the statement
-- stands. `body` is a statement in a body one level down, in so many loops.
module _ (level : ℕ) (loops : ℕ) (expression : Rule Expression) (place : Rule Place)
    (body : ℕ → Rule Body) where
  -- expr ";"
  abbrev pub Perform : Rule Ended
  Perform = do
    value ← expression
    Mark (Of word.Semicolon)
    Gives (whole (tree.Expression value))

  -- "echo" expr *( "," expr ) ";"
  abbrev pub Echo : Rule Ended
  Echo = do
    Mark (Of word.Echo)
    values ← PlainItems (λ _. expression) (Of word.Semicolon)
    Gives (whole (tree.Echo values))

  -- "{" *stmt "}"
  abbrev pub Block : Rule Ended
  Block = Nests level (Braced (body loops))

  -- "(" expr ")"
  abbrev pub Test : Rule Expression
  Test = do
    Mark (Of word.OpenParenthesis)
    test ← expression
    Mark (Of word.CloseParenthesis)
    Gives test

  -- "(" expr ")" stmt, behind the word on this line
  abbrev pub ArmRule : List Arm → ℕ → Rule Arms
  ArmRule arms line = do
    test ← Test
    b ← HeadBody (body loops)
    Gives (with_arm arms line test b)

  -- elseif "(" expr ")" stmt, where the body before it takes none
  abbrev pub NextArm : Arms → Rule Arms
  NextArm a = When (not a.1) (ElseIf >>= ArmRule a.0)

  -- "else" stmt, where the body before it takes none. With an `if` behind it, it is an elseif.
  abbrev pub Otherwise : Arms → Rule Ended
  Otherwise a = When (not a.1) (do
    Mark (Of word.Else)
    b ← Without (Of word.If) (HeadBody (body loops))
    Gives (ended (tree.If a.0 (Some b.statement)) b.is_open))

  -- "if" "(" expr ")" stmt *( elseif "(" expr ")" stmt ) [ "else" stmt ]
  abbrev pub If : Rule Ended
  If = Nests level (do
    line ← Mark (Of word.If)
    first ← ArmRule [] line
    Closed NextArm (λ a. Otherwise a or Gives (ended (tree.If a.0 None) true)) first)

  -- the body of a loop, and what it makes
  abbrev pub LoopBody : (Statement → StatementKind) → Rule Ended
  LoopBody of = Made (HeadBody (body (suc loops))) (λ b. ended (of b.statement) b.is_open)

  -- "while" "(" expr ")" stmt
  abbrev pub While : Rule Ended
  While = Nests level (do
    Mark (Of word.While)
    test ← Test
    LoopBody (λ b. tree.While test b))

  -- "do" stmt "while" "(" expr ")" ";"
  abbrev pub DoWhile : Rule Ended
  DoWhile = Nests level (do
    Mark (Of word.Do)
    b ← HeadBody (body (suc loops))
    line ← Mark (Of word.While)
    test ← Test
    Mark (Of word.Semicolon)
    Gives (whole (tree.DoWhile b.statement line test)))

  -- "for" "(" exprs ";" exprs ";" exprs ")" stmt
  abbrev pub For : Rule Ended
  For = Nests level (do
    Mark (Of word.For)
    Mark (Of word.OpenParenthesis)
    before ← AnyPlainItems (λ _. expression) (Of word.Semicolon)
    tests ← AnyPlainItems (λ _. expression) (Of word.Semicolon)
    after ← AnyPlainItems (λ _. expression) (Of word.CloseParenthesis)
    LoopBody (λ b. tree.For before tests after b))

  -- "foreach" "(" expr "as" var [ "=>" var ] ")" stmt
  abbrev pub Foreach : Rule Ended
  Foreach = Nests level (do
    Mark (Of word.Foreach)
    Mark (Of word.OpenParenthesis)
    subject ← expression
    Mark (Of word.As)
    bound ← Bound
    Mark (Of word.CloseParenthesis)
    LoopBody (λ b. tree.Foreach subject bound b))

  -- [ number ] ";", where none is 1
  abbrev pub Loops : Rule ℕ
  Loops = (Kind (number_up_to loops) or Gives 1) >>= (λ n. Made (Mark (Of word.Semicolon)) (λ _. n))

  -- ( "break" | "continue" ) [ number ] ";", in a loop
  abbrev pub Break : Rule Ended
  Break = When (nat_lt 0 loops) (Made (Mark (Of word.Break) >> Loops) (λ n. whole (tree.Break n)))

  abbrev pub Continue : Rule Ended
  Continue =
      When (nat_lt 0 loops) (Made (Mark (Of word.Continue) >> Loops) (λ n. whole (tree.Continue n)))

  -- [ expr ] and what ends it
  abbrev pub MaybeUpTo : Rule ℕ → Rule (Option Expression)
  MaybeUpTo end = Made end (λ _. None) or (expression >>= (λ value. Made end (λ _. Some value)))

  -- "return" [ expr ] ";"
  abbrev pub Return : Rule Ended
  Return =
      Made (Mark (Of word.Return) >> MaybeUpTo (Mark (Of word.Semicolon)))
      (λ value. whole (tree.Return value))

  -- "unset" "(" places ")" ";"
  abbrev pub Unset : Rule Ended
  Unset = do
    Mark (Of word.Unset)
    Mark (Of word.OpenParenthesis)
    places ← SomeItems (λ _. place) (Of word.CloseParenthesis)
    Mark (Of word.Semicolon)
    Gives (whole (tree.Unset places))

  -- ( "exit" | "die" ) [ "(" [ expr ] ")" ] ";"
  abbrev pub ExitValue : Rule (Option Expression)
  ExitValue =
      (Mark (Of word.OpenParenthesis) >> MaybeUpTo (Mark (Of word.CloseParenthesis))) or Gives None

  abbrev pub Exit : Rule Ended
  Exit = do
    Mark (Of word.Exit) or Mark (Of word.Die)
    value ← ExitValue
    Mark (Of word.Semicolon)
    Gives (whole (tree.Exit value))

  abbrev pub AnyStatement : Rule Ended
  AnyStatement =
      Perform or Echo or Block or Empty or If or While or DoWhile or For or Foreach
      or Break or Continue or Return or GlobalRule or Unset or Exit

-- a statement in a body one level down, where so many levels are left, in so many loops
abbrev pub body_at : (expressions : ℕ) → ℕ → ℕ → Rule Body
body_at expressions zero loops = λ ts a. ⊥
body_at expressions (suc level) loops =
    OnItsLine (AnyStatement level loops (IsExpression expressions) (IsPlace expressions)
    (body_at expressions level))

-- how many levels of nesting there are, of expressions and of bodies
pub record Depth : Type 0 where
  pub expressions : ℕ
  pub bodies : ℕ

-- a statement outside of loops
abbrev pub IsStatement : Depth → Rule Body
IsStatement depth =
    OnItsLine (AnyStatement depth.bodies 0
    (IsExpression depth.expressions) (IsPlace depth.expressions)
    (body_at depth.expressions depth.bodies))

-- ---- files

abbrev pub function_of : ℕ → Text → List Text → List Statement → Function
function_of line name parameters body =
    record { line = line; name = name; parameters = parameters; body = body }

-- "function" name "(" [ var *( "," var ) [ "," ] ] ")" "{" *stmt "}"
abbrev pub FunctionRule : Depth → Rule Function
FunctionRule depth = Nests depth.bodies (do
  line ← Mark (Of word.Function)
  name ← Kind name_in
  Mark (Of word.OpenParenthesis)
  parameters ← AnyItems (λ found. Kind (parameter_in found)) (Of word.CloseParenthesis)
  Mark (Of word.OpenBrace)
  all ← Bodies (body_at depth.expressions depth.bodies 0)
  Gives (function_of line name parameters all))

abbrev pub no_parts : Parts
no_parts = record { body = []; functions = [] }

abbrev pub with_statement : Parts → Body → Parts
with_statement parts b =
    record { body = parts.body ++ b.statement ∷ []; functions = parts.functions }

abbrev pub with_function : Parts → Function → Parts
with_function parts f = record { body = parts.body; functions = parts.functions ++ f ∷ [] }

-- a token that stands in no constant's value: of a variable, of `++` or `--`, which want one, of an
-- `isset` or an include; nor does `;`
abbrev pub never_constant : Terminal → Bool
never_constant terminal.Variable = true
never_constant terminal.Superglobal = true
never_constant (Of word.Isset) = true
never_constant (Of word.Include) = true
never_constant (Of word.Require) = true
never_constant (Of word.Increment) = true
never_constant (Of word.Decrement) = true
never_constant (Of word.Semicolon) = true
never_constant _ = false

-- such a token, or, behind a name, the parenthesis of a call
abbrev pub ends_constant : Bool → Terminal → Bool
ends_constant named s = never_constant s || (is (Of word.OpenParenthesis) s && named)

-- No variable, `isset`, include, call or `;` stands among these tokens, which stand behind a name
-- or not.
abbrev pub is_of_constants : Bool → List Token → Bool
is_of_constants named [] = true
is_of_constants named (t ∷ ts) =
    not (ends_constant named (terminal_of t.kind))
    && is_of_constants (is terminal.Name (terminal_of t.kind)) ts

-- the rule, where its tokens are such
pub record OfConstants {A : Type 0} (rule : Rule A) (text : List Token) (a : A) : Type 0 where
  pub of_constants : is_of_constants false text ≡ true
  pub spelled : rule text a

abbrev pub definition_of : Text → Expression → Definition
definition_of name value = record { name = name; value = value }

-- name "=" expr
abbrev pub DefinitionRule : Rule Expression → Rule Definition
DefinitionRule expression = do
  name ← Kind name_in
  Mark (Of word.Assign)
  value ← expression
  Gives (definition_of name value)

-- "," name "=" expr
abbrev pub NextDefinition : Rule Expression → Rule Definition
NextDefinition expression = Mark (Of word.Comma) >> DefinitionRule expression

-- "const" name "=" expr *( "," name "=" expr )
abbrev pub Definitions : Rule Expression → Rule (List Definition)
Definitions expression = do
  Mark terminal.Const
  first ← DefinitionRule expression
  more ← Many (NextDefinition expression)
  Gives (first ∷ more)

-- const = "const" name "=" cexpr *( "," name "=" cexpr ) ";", where a cexpr is an expr in which no
-- variable, `isset`, include or call stands. In the rest of a const none can stand, and in an
-- expression no `;`.
abbrev pub ConstantsRule : Rule Expression → Rule Ended
ConstantsRule expression = do
  all ← OfConstants (Definitions expression)
  Mark (Of word.Semicolon)
  Gives (whole (tree.Constants all))

abbrev pub IsConstants : Depth → Rule Body
IsConstants depth = OnItsLine (ConstantsRule (IsExpression depth.expressions))

-- file = *( function | const | stmt )
abbrev pub Spells : Depth → Rule Parts
Spells depth =
    Closed (λ parts.
    Made (FunctionRule depth) (with_function parts)
    or Made (IsConstants depth) (with_statement parts)
    or Made (IsStatement depth) (with_statement parts))
    (λ parts. Gives parts) no_parts

-- an expression by itself: expr [ ";" ]
abbrev pub SpellsExpression : ℕ → Rule Expression
SpellsExpression level =
    IsExpression level >>= (λ e. Made (Perhaps (Mark (Of word.Semicolon))) (λ _. e))
