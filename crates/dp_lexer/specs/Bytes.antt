-- The sorts of bytes that the token grammar speaks of.
use Rattle.std.specs.Prelude.{ℕ, ◌+◌, ◌-◌, ◌*◌, Bool, false, not, ◌&&◌, ◌||◌, ◌==◌, nat_le, nat_lt, if◌then◌else◌, List, [], ◌∷◌}
use Rattle.std.specs.List.{fold}
pub use Rattle.dp_grammar.specs.Texts.{is_digit, is_letter}
pub use Rattle.dp_grammar.specs.Parts.{begins, Each}

-- white space: space, tab, line feed, carriage return
abbrev pub is_space : ℕ → Bool
is_space b = b == 32 || b == 9 || b == 10 || b == 13

abbrev pub is_octal : ℕ → Bool
is_octal b = nat_le 48 b && nat_le b 55

abbrev pub is_hexadecimal : ℕ → Bool
is_hexadecimal b = is_digit b || (nat_le 97 b && nat_le b 102) || (nat_le 65 b && nat_le b 70)

-- what a name begins with, [A-Za-z_\x80-\xff], and what it goes on with, [A-Za-z0-9_\x80-\xff]
abbrev pub is_start : ℕ → Bool
is_start b = is_letter b || b == 95 || nat_le 128 b

abbrev pub is_part : ℕ → Bool
is_part b = is_start b || is_digit b

-- what may not stand directly behind a number: a digit, a letter, an underscore, a point
abbrev pub runs_on : ℕ → Bool
runs_on b = is_digit b || is_letter b || b == 95 || b == 46

-- anything but a line feed
abbrev pub is_in_line : ℕ → Bool
is_in_line b = not (b == 10)

-- whether `?>` stands at the front
abbrev pub begins_tag : List ℕ → Bool
begins_tag [] = false
begins_tag (b ∷ []) = false
begins_tag (b ∷ c ∷ t) = b == 63 && c == 62

-- the value of a digit: 0 to 9, a to f, A to F
abbrev pub digit_value : ℕ → ℕ
digit_value d = if nat_lt d 58 then d - 48 else (if nat_lt d 71 then d - 55 else d - 87)

-- the number that digits spell in a base
abbrev pub value_in : ℕ → List ℕ → ℕ
value_in base = fold (λ n d. n * base + digit_value d) 0
