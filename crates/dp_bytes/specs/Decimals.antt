-- Decimals: `0`, or a digit from 1 to 9 followed by digits.
use Rattle.std.specs.Prelude.{ℕ, nat_le, Bool, ◌&&◌, ◌||◌, cond, List, Option, Some, None, codes}
use Rattle.std.specs.Str.{bytes_eq}
use Rattle.std.specs.Str.Parse.{digits_value}
use Rattle.dp_bytes.specs.IntText.{is_positive}

abbrev pub is_decimal : List ℕ → Bool
is_decimal text = bytes_eq text (codes "0") || is_positive text

-- the number whose decimal the text is, where it is at most this
unfoldable pub decimal_in : ℕ → List ℕ → Option ℕ
decimal_in most text =
    cond (is_decimal text && nat_le (digits_value 10 text) most) (Some (digits_value 10 text)) None
