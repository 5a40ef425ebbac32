-- Which bytes are white space, digits and parts of names (XML 1.0, 2.3, within ASCII).
use Rattle.std.specs.Prelude.{ℕ, Bool, false, not, ◌&&◌, ◌||◌, ◌==◌, List, [], ◌∷◌}
use Rattle.std.specs.List.{list_all}
pub use Rattle.dp_grammar.specs.Texts.{is_digit, is_letter, within_byte}
unfoldable pub use Rattle.dp_grammar.specs.Texts.{decimal_behind, hexadecimal_behind}

-- space, tab, line feed, carriage return
abbrev pub is_white : ℕ → Bool
is_white b = b == 32 || b == 9 || b == 10 || b == 13

-- a letter, `_` or `:`
abbrev pub is_name_start : ℕ → Bool
is_name_start b = is_letter b || b == 95 || b == 58

-- what may begin a name, a digit, `-` or `.`
abbrev pub is_name_byte : ℕ → Bool
is_name_byte b = is_name_start b || is_digit b || b == 45 || b == 46

abbrev pub is_name : List ℕ → Bool
is_name [] = false
is_name (b ∷ bs) = is_name_start b && list_all is_name_byte bs

-- every byte but `<` and `&` stands for itself in a text
abbrev pub is_plain_in_text : ℕ → Bool
is_plain_in_text b = not (b == 60 || b == 38)

-- and in a value every byte but these and its quote
abbrev pub is_plain_in_value : ℕ → ℕ → Bool
is_plain_in_value quote b = not (b == 60 || b == 38 || b == quote)

abbrev pub is_quote : ℕ → Bool
is_quote b = b == 34 || b == 39
