-- The sorts of bytes that the grammar of command lines speaks of.
use Rattle.std.specs.Prelude.{ℕ, Bool, not, ◌&&◌, ◌||◌, ◌==◌, nat_le}
pub use Rattle.dp_grammar.specs.Texts.{is_letter}
pub use Rattle.dp_grammar.specs.Parts.{begins, Each}

abbrev pub is_space : ℕ → Bool
is_space b = b == 32

-- what a command's name consists of: a to z, 0 to 9 and _
abbrev pub is_name_byte : ℕ → Bool
is_name_byte b = (nat_le 97 b && nat_le b 122) || (nat_le 48 b && nat_le b 57) || b == 95

-- what a value without quotes consists of: any byte but a space, NUL and a quote
abbrev pub is_bare : ℕ → Bool
is_bare b = not (b == 32) && not (b == 0) && not (b == 34)

-- what the text of a payload consists of: any byte but a space, of which base64 tells the rest
abbrev pub is_text : ℕ → Bool
is_text b = not (b == 32)
