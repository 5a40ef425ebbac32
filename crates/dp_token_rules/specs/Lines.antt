-- The line of the next token.
use Rattle.std.specs.Prelude.{ℕ, List, Option, Some, None}
use Rattle.dp_lexer.specs.declared.token.Token.{Token}
use Rattle.dp_grammar.specs.Rules.{head as first}

-- the line of this token, or 0 at the end
abbrev pub next_line : Option Token → ℕ
next_line None = 0
next_line (Some t) = t.line

abbrev pub line_of : List Token → ℕ
line_of ts = next_line (first ts)
