-- Texts as their grammars see them: bytes, of which those of ASCII's letters and digits make names
-- and numbers.
use Rattle.std.specs.Prelude.{ℕ, ◌+◌, ◌-◌, ◌*◌, Bool, ◌&&◌, ◌||◌, nat_le, if◌then◌else◌, List, Option, Some, None}

abbrev pub Text : Type 0
Text = List ℕ

abbrev pub is_digit : ℕ → Bool
is_digit b = nat_le 48 b && nat_le b 57

abbrev pub is_letter : ℕ → Bool
is_letter b = (nat_le 97 b && nat_le b 122) || (nat_le 65 b && nat_le b 90)

-- a number up to 255, else none
abbrev pub within_byte : ℕ → Option ℕ
within_byte n = if nat_le n 255 then Some n else None

-- the number that a decimal digit makes behind n
unfoldable pub decimal_behind : ℕ → ℕ → Option ℕ
decimal_behind n b = if is_digit b then within_byte (n * 10 + (b - 48)) else None

-- the number that a hexadecimal digit of either case makes behind n
unfoldable pub hexadecimal_behind : ℕ → ℕ → Option ℕ
hexadecimal_behind n b =
    if is_digit b then within_byte (n * 16 + (b - 48))
    else if nat_le 97 b && nat_le b 102 then within_byte (n * 16 + (b - 87))
    else if nat_le 65 b && nat_le b 70 then within_byte (n * 16 + (b - 55))
    else None
