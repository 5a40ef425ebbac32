-- Why an expression has no tree, as the code finds.
use Rattle.std.specs.Prelude.{◌≡◌, ℕ, true, false, if◌then◌else◌, List, Option, Result, Ok, Err}
use Rattle.dp_parse.specs.declared.errors.ParseError.{ParseError}
use Rattle.dp_parse.specs.declared.errors.ParseError.TheVariants as parse_error
use Rattle.dp_tree.specs.declared.tree.Expression.{Expression}
use Rattle.dp_tree.specs.Purity.{is_pure}
use Rattle.dp_break.specs.declared.errors.BreakError.{BreakError}
use Rattle.dp_break.specs.declared.errors.BreakError.TheVariants as error
use Rattle.dp_break.specs.Conditions.{has_no_tree, is_too_long}
use Rattle.dp_packet.specs.declared.error_codes.ErrorCode.TheVariants.{InvalidExpression}

-- it is refused, or out of memory, which does not come where it is too long
abbrev pub IsNoTree : Option (List ℕ) → BreakError → Type 0
IsNoTree expression (error.Code code) = (code ≡ InvalidExpression) × (has_no_tree expression ≡ true)
IsNoTree expression error.Memory = is_too_long expression ≡ false

-- a refusal where a text is no expression, unless memory runs out
abbrev pub error_of : ParseError → BreakError
error_of parse_error.Memory = error.Memory
error_of why = error.Code InvalidExpression

-- a refusal where an expression may change something
abbrev pub pure_or_refused : Expression → Result Expression BreakError
pure_or_refused e = if is_pure e then Ok e else Err (error.Code InvalidExpression)
