-- What is read within the limits of nesting.
use Rattle.std.specs.Prelude.{ℕ}
use Rattle.dp_parse.specs.declared.ended.Body.{Body}
use Rattle.dp_expressions.specs.declared.operand.Part.TheVariants as part
use Rattle.dp_tree.specs.declared.tree.Expression.{Expression}
use Rattle.dp_tree.specs.declared.tree.Place.{Place}
use Rattle.dp_token_rules.specs.inner.Input.{Reader}
use Rattle.dp_expressions.specs.inner.Readers.{reading, reading_place}
use Rattle.dp_parse.specs.Limits.{expression_levels}
use Rattle.dp_parse.specs.inner.StatementRules.{body_below}

abbrev pub expression : Reader Expression
expression = reading expression_levels part.Whole

abbrev pub place : Reader Place
place = reading_place expression_levels

-- bodies one level down, where so many levels of bodies are left, in so many loops
abbrev pub body : ℕ → ℕ → Reader Body
body = body_below expression_levels

-- a reader of statements, where so many levels of bodies are left, in so many loops
abbrev pub within : {R : Type 0}
    → (ℕ → ℕ → Reader Expression → Reader Place → (ℕ → Reader Body) → R) → ℕ × ℕ → R
within reader room = reader room.0 room.1 expression place (body room.0)
