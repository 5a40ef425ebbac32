-- The bytes of files and of expressions: which tree they are, and why they are none.
use Rattle.std.specs.Prelude.{◌≡◌, ℕ, ◌+◌, ◌-◌, List, ⊤}
use Rattle.dp_lexer.specs.declared.errors.LexError.{LexError}
use Rattle.dp_lexer.specs.declared.fault.Fault.{Fault}
use Rattle.dp_lexer.specs.declared.token.Token.{Token}
use Rattle.dp_lexer.specs.Tokens.{AreFileTokens, AreTokens, IsFileRefused, IsRefused, error_of, feeds}
use Rattle.dp_parse.specs.declared.ended.Parts.{Parts}
use Rattle.dp_parse.specs.declared.errors.ParseError.{ParseError}
use Rattle.dp_parse.specs.declared.errors.ParseError.TheVariants as error
use Rattle.dp_grammar.specs.declared.refusal.Refusal.{Refusal}
use Rattle.dp_grammar.specs.declared.refusal.Refusal.TheVariants as refusal
use Rattle.dp_tree.specs.declared.tree.Expression.{Expression}
use Rattle.dp_tree.specs.declared.tree.File.{File}
use Rattle.dp_parse.specs.Limits.{limits}
use Rattle.dp_parse.specs.Statements.{Spells, SpellsExpression}
use Rattle.dp_token_rules.specs.Rules.{Rule}
use Rattle.dp_token_rules.specs.Refused.{IsUnexpected, IsTooDeep}
use Rattle.dp_tree.specs.Doubles.{HasNoDouble, IsDouble}

-- the bytes are a program, and this is its tree
pub record IsFile (bytes : List ℕ) (file : File) : Type 0 where
  pub tokens : List Token
  pub are_tokens : AreFileTokens bytes tokens
  pub parts : Parts
  pub spelled : Spells limits tokens parts
  pub apart : HasNoDouble parts.functions
  pub body : file.body ≡ parts.body
  pub functions : file.functions ≡ parts.functions
  pub lines : file.lines ≡ 1 + feeds bytes

-- the bytes have no tokens, for this reason
pub record HasNoTokens (Refused : Fault → ℕ → Type 0) (why : LexError) : Type 0 where
  pub fault : Fault
  pub offset : ℕ
  pub refused : Refused fault offset
  pub reason : why ≡ error_of fault offset

-- the first token with which no program begins
pub record IsWrongToken (bytes : List ℕ) (Wrong : List Token → Type 0) : Type 0 where
  pub tokens : List Token
  pub are_tokens : AreFileTokens bytes tokens
  pub wrong : Wrong tokens

-- all is spelled, but a function has a name that is taken
pub record HasDouble (bytes : List ℕ) (name : List ℕ) : Type 0 where
  pub tokens : List Token
  pub are_tokens : AreFileTokens bytes tokens
  pub parts : Parts
  pub spelled : Spells limits tokens parts
  pub double : IsDouble parts.functions name

-- Tokens are refused at a token, by a rule at its limits of nesting. No other reason is one of
-- tokens.
abbrev pub AreWrong : {L A : Type 0} → (L → Rule A) → L → List Token → ParseError → Type 0
AreWrong rule depth ts (error.Unexpected token) = IsUnexpected rule depth ts token
AreWrong rule depth ts (error.TooDeep token) = IsTooDeep rule depth ts token
AreWrong rule depth ts error.Memory = ⊤
AreWrong rule depth ts why = ⊥

-- the reason, by the number of the token, where so many tokens were left of so many
abbrev pub reported : ℕ → Refusal → ParseError
reported count (refusal.Unexpected left) = error.Unexpected (count - left)
reported count (refusal.TooDeep left) = error.TooDeep (count - left)
reported count refusal.Memory = error.Memory

-- why bytes are no program
abbrev pub IsNoFile : List ℕ → ParseError → Type 0
IsNoFile bytes (error.Lex why) = HasNoTokens (IsFileRefused bytes) why
IsNoFile bytes (error.Unexpected token) =
    IsWrongToken bytes (λ ts. AreWrong Spells limits ts (error.Unexpected token))
IsNoFile bytes (error.TooDeep token) =
    IsWrongToken bytes (λ ts. AreWrong Spells limits ts (error.TooDeep token))
IsNoFile bytes (error.DoubleFunction name) = HasDouble bytes name
IsNoFile bytes error.Memory = ⊤

-- ---- expressions

pub record IsExpressionText (bytes : List ℕ) (e : Expression) : Type 0 where
  pub tokens : List Token
  pub are_tokens : AreTokens bytes tokens
  pub spelled : SpellsExpression limits.expressions tokens e

pub record IsWrongInText (bytes : List ℕ) (Wrong : List Token → Type 0) : Type 0 where
  pub tokens : List Token
  pub are_tokens : AreTokens bytes tokens
  pub wrong : Wrong tokens

-- why bytes are no expression
abbrev pub IsNoExpression : List ℕ → ParseError → Type 0
IsNoExpression bytes (error.Lex why) = HasNoTokens (IsRefused bytes) why
IsNoExpression bytes (error.Unexpected token) =
    IsWrongInText bytes (λ ts.
    AreWrong SpellsExpression limits.expressions ts (error.Unexpected token))
IsNoExpression bytes (error.TooDeep token) =
    IsWrongInText bytes (λ ts.
    AreWrong SpellsExpression limits.expressions ts (error.TooDeep token))
IsNoExpression bytes (error.DoubleFunction name) = ⊥
IsNoExpression bytes error.Memory = ⊤
