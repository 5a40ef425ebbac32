-- What the rules of the grammar are made of: those of dp_grammar, over tokens, and what only tokens
-- have.
use Rattle.std.specs.Prelude.{◌≡◌, false, ℕ, List, ◌∷◌, Option, Some, None, if◌then◌else◌}
use Rattle.dp_lexer.specs.declared.token.Token.{Token}
use Rattle.dp_grammar.specs.Rules as grammar
use Rattle.dp_token_rules.specs.declared.terminal.Terminal.{Terminal}
use Rattle.dp_token_rules.specs.Terminals.{terminal_of, same_terminal, head}
pub use Rattle.dp_grammar.specs.Rules.{
  Joined,
  ◌>>=◌,
  ◌>>◌,
  ◌or◌,
  Gives,
  Made,
  One,
  When,
  Nests,
  Chain,
  Closed,
  Many,
  Perhaps,
  Step,
}

abbrev pub Rule : Type 0 → Type 1
Rule A = grammar.Rule Token A

-- the line of a token of this sort
abbrev pub line_at : Terminal → Token → Option ℕ
line_at s t = if same_terminal (terminal_of t.kind) s then Some t.line else None

-- a token of this sort, for its line
abbrev pub Mark : Terminal → Rule ℕ
Mark s = One (line_at s)

-- the rule, where its first token is of another sort
pub record Without {A : Type 0} (s : Terminal) (rule : Rule A) (text : List Token) (a : A)
    : Type 0 where
  pub apart : same_terminal (head text) s ≡ false
  pub spelled : rule text a

-- a rule that is given the line of its first token
pub record OnLine {A : Type 0} (rule : ℕ → Rule A) (text : List Token) (a : A) : Type 0 where
  pub first : Token
  pub behind : List Token
  pub begins : text ≡ first ∷ behind
  pub spelled : rule first.line text a
