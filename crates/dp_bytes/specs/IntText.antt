-- The texts that spell an integer: `0`, or an optional minus and digits that do not begin with 0,
-- in the range of 64 bits. Source: the PHP manual, "Arrays", on keys.
use Rattle.std.specs.Prelude.{ℕ, ℤ, pos, negsuc, ◌==◌, ◌^◌, Bool, false, not, ◌&&◌, ◌||◌, cond, List, [], ◌∷◌, Option, Some, None, nat_eq, nat_lt}
use Rattle.std.specs.Cmp.Lexicographic.{pointwise}
use Rattle.std.specs.Char.{is_ascii_digit}
use Rattle.std.specs.List.{list_all}
use Rattle.std.specs.Str.Parse.{signed_digits_value}

-- one digit or more, the first of which is not 0
abbrev pub is_positive : List ℕ → Bool
is_positive [] = false
is_positive (c ∷ cs) = not (c == 48) && list_all is_ascii_digit (c ∷ cs)

abbrev pub without_minus : List ℕ → List ℕ
without_minus [] = []
without_minus (c ∷ cs) = cond (c == 45) cs (c ∷ cs)

abbrev pub is_int_form : List ℕ → Bool
is_int_form bytes = pointwise nat_eq bytes (48 ∷ []) || is_positive (without_minus bytes)

abbrev pub is_in_64_bits : ℤ → Bool
is_in_64_bits (pos n) = nat_lt n (2 ^ 63)
is_in_64_bits (negsuc n) = nat_lt n (2 ^ 63)

-- the integer that a text spells
abbrev pub int_of_text : List ℕ → Option ℤ
int_of_text bytes =
    cond (is_int_form bytes && is_in_64_bits (signed_digits_value 10 bytes))
    (Some (signed_digits_value 10 bytes)) None
