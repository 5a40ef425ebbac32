-- The sorts of tokens.
use denote.Enum.Declared.{tag_of}
use Rattle.std.specs.Prelude.{ℕ, ◌+◌, Bool, ◌||◌, if◌then◌else◌, nat_eq, List, Option, Some, None, codes}
use Rattle.std.specs.Str.{bytes_eq, str_eq_ignore_ascii_case}
use Rattle.dp_lexer.specs.declared.token.Token.{Token}
use Rattle.dp_lexer.specs.declared.token.TokenKind.{TokenKind}
use Rattle.dp_lexer.specs.declared.token.TokenKind.TheVariants as kind
use Rattle.dp_lexer.specs.contracts.token.Word.{the_type}
use Rattle.dp_lexer.specs.Keywords.{is_reserved}
use Rattle.dp_grammar.specs.Rules.{head as first}
use Rattle.dp_token_rules.specs.declared.terminal.Terminal.{Terminal}
use Rattle.dp_token_rules.specs.declared.terminal.Terminal.TheVariants as terminal

-- the variables that a program may not name
abbrev pub is_superglobal : List ℕ → Bool
is_superglobal name = bytes_eq name (codes "this") || bytes_eq name (codes "GLOBALS")

-- `const` is a name to the lexer, in any case of letters
abbrev pub reserved_terminal : List ℕ → Terminal
reserved_terminal name =
    if str_eq_ignore_ascii_case name (codes "const") then terminal.Const else terminal.Reserved

abbrev pub terminal_of : TokenKind → Terminal
terminal_of (kind.Variable name) =
    if is_superglobal name then terminal.Superglobal else terminal.Variable
terminal_of (kind.Name name) =
    if is_reserved name then reserved_terminal name else terminal.Name
terminal_of (kind.Number _) = terminal.Number
terminal_of (kind.Text _) = terminal.Text
terminal_of (kind.Word w) = terminal.Of w

-- sorts by numbers, those of words by their places in `Word`
abbrev pub number_of : Terminal → ℕ
number_of terminal.End = 0
number_of terminal.Variable = 1
number_of terminal.Superglobal = 2
number_of terminal.Name = 3
number_of terminal.Reserved = 4
number_of terminal.Const = 5
number_of terminal.Number = 6
number_of terminal.Text = 7
number_of (terminal.Of w) = 8 + tag_of the_type w

abbrev pub same_terminal : Terminal → Terminal → Bool
same_terminal a b = nat_eq (number_of a) (number_of b)

-- it is this sort
abbrev pub is : Terminal → Terminal → Bool
is a b = same_terminal b a

-- what sort of token this is, or the end
abbrev pub next_terminal : Option Token → Terminal
next_terminal None = terminal.End
next_terminal (Some t) = terminal_of t.kind

-- what sort of token comes next
abbrev pub head : List Token → Terminal
head ts = next_terminal (first ts)
