-- The tree of an expression as a function of its bytes: their tokens, read to the end. That this is
-- the tree that the bytes spell, and none where they spell none, is a law (`IsExact`, proved
-- by `expressions_are_exact`).
use Rattle.std.specs.Prelude.{◌≡◌, ◌≢◌, ◌↔◌, ℕ, List, Option, Some, None, Result, Ok, Err}
use Rattle.dp_lexer.specs.declared.token.Token.{Token}
use Rattle.dp_lexer.specs.ExpressionTokens.{expression_tokens}
use Rattle.dp_parse.specs.declared.errors.ParseError.{ParseError}
use Rattle.dp_parse.specs.declared.errors.ParseError.TheVariants as error
use Rattle.dp_tree.specs.declared.tree.Expression.{Expression}
use Rattle.dp_token_rules.specs.inner.Input.{Outcome}
use Rattle.dp_parse.specs.Limits.{expression_levels}
use Rattle.dp_parse.specs.Programs.{IsExpressionText}
use Rattle.dp_parse.specs.inner.StatementRules.{expression_text}

-- the value, if one was read
abbrev pub value_in : {A : Type 0} → Outcome A → Option A
value_in (Ok x) = Some x.0
value_in (Err e) = None

-- the tree of these tokens, if they are any
abbrev pub tree_in : Option (List Token) → Option Expression
tree_in None = None
tree_in (Some ts) = value_in (expression_text expression_levels ts)

-- the tree of an expression, if the bytes spell one
abbrev pub expression_in : List ℕ → Option Expression
expression_in bytes = tree_in (expression_tokens bytes)

-- gives exactly the tree that bytes spell, and none where they spell none
abbrev pub IsExact : (List ℕ → Option Expression) → Type 0
IsExact read = (bytes : List ℕ) (e : Expression) → (read bytes ≡ Some e) ↔ IsExpressionText bytes e

-- what a call that looks for it answers, unless memory runs out
abbrev pub IsReadBy : Option Expression → Result Expression ParseError → Type 0
IsReadBy tree (Ok e) = tree ≡ Some e
IsReadBy tree (Err why) = why ≢ error.Memory → tree ≡ None
