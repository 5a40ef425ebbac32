-- What a token is worth to a rule, by its kind or by its sort.
use Rattle.std.specs.Prelude.{ℕ, pos, Bool, true, false, ◌&&◌, nat_le, if◌then◌else◌, Option, Some, None, ℤ}
pub use Rattle.dp_grammar.specs.Texts.{Text}
use Rattle.dp_lexer.specs.declared.token.Token.{Token}
use Rattle.dp_lexer.specs.declared.token.TokenKind.{TokenKind}
use Rattle.dp_lexer.specs.declared.token.TokenKind.TheVariants as kind
use Rattle.dp_lexer.specs.Keywords.{is_reserved}
use Rattle.dp_token_rules.specs.declared.terminal.Terminal.{Terminal}
use Rattle.dp_token_rules.specs.Terminals.{terminal_of, is_superglobal}
use Rattle.dp_token_rules.specs.Rules.{Rule, One}

-- nothing where the test holds
abbrev pub unless : {A : Type 0} → Bool → A → Option A
unless true a = None
unless false a = Some a

abbrev pub variable_in : TokenKind → Option Text
variable_in (kind.Variable name) = unless (is_superglobal name) name
variable_in _ = None

abbrev pub name_in : TokenKind → Option Text
name_in (kind.Name name) = unless (is_reserved name) name
name_in _ = None

abbrev pub number_in : TokenKind → Option ℤ
number_in (kind.Number n) = Some n
number_in _ = None

abbrev pub text_in : TokenKind → Option Text
text_in (kind.Text bytes) = Some bytes
text_in _ = None

-- a number from 1 to this one
abbrev pub number_up_to : ℕ → TokenKind → Option ℕ
number_up_to most (kind.Number (pos n)) = if nat_le 1 n && nat_le n most then Some n else None
number_up_to most _ = None

-- a token by its sort, and by its kind
abbrev pub by_terminal : {A : Type 0} → (Terminal → Option A) → Token → Option A
by_terminal worth t = worth (terminal_of t.kind)

abbrev pub by_kind : {A : Type 0} → (TokenKind → Option A) → Token → Option A
by_kind worth t = worth t.kind

abbrev pub Sort : {A : Type 0} → (Terminal → Option A) → Rule A
Sort worth = One (by_terminal worth)

abbrev pub Kind : {A : Type 0} → (TokenKind → Option A) → Rule A
Kind worth = One (by_kind worth)

abbrev pub Variable : Rule Text
Variable = Kind variable_in
