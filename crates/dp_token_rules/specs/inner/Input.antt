-- How the functions that read tokens go: the steps of dp_grammar, and those that only tokens have.
use Rattle.std.specs.Prelude.{ℕ, Bool, List, Option, is_some}
use Rattle.dp_lexer.specs.declared.token.Token.{Token}
use Rattle.dp_lexer.specs.declared.token.TokenKind.{TokenKind}
use Rattle.dp_grammar.specs.inner.Input as grammar
use Rattle.dp_token_rules.specs.declared.terminal.Terminal.{Terminal}
use Rattle.dp_token_rules.specs.Terminals.{head}
use Rattle.dp_token_rules.specs.Rules.{line_at}
use Rattle.dp_token_rules.specs.TokenValues.{Text, variable_in, by_terminal, by_kind}
pub use Rattle.dp_grammar.specs.inner.Input.{
  and_then,
  ◌>>=◌,
  ◌>>◌,
  gives,
  made,
  met,
  one,
  taken,
  enter,
  next_of,
  closed,
  Reads,
  ReadsSlice,
  Surely,
}
unfoldable pub use Rattle.dp_grammar.specs.inner.Input.{refuse, until}

-- a value and the tokens behind it, or a refusal
abbrev pub Outcome : Type 0 → Type 0
Outcome A = grammar.Outcome Token A

abbrev pub Reader : Type 0 → Type 0
Reader A = grammar.Reader Token A

abbrev pub mark : Terminal → Reader ℕ
mark s = one (line_at s)

-- one token, by its sort
abbrev pub sort : {A : Type 0} → (Terminal → Option A) → Reader A
sort worth = one (by_terminal worth)

-- one token, by its kind
abbrev pub kind : {A : Type 0} → (TokenKind → Option A) → Reader A
kind worth = one (by_kind worth)

-- a token of a sort that is worth something comes next
abbrev pub sees : {A : Type 0} → (Terminal → Option A) → List Token → Bool
sees worth ts = is_some (worth (head ts))

-- a variable that a program may name
unfoldable pub variable : Reader Text
variable = kind variable_in
