-- Keys of arrays.
use Rattle.std.specs.Prelude.{ℕ, Bool, false, length, nat_eq}
use Rattle.std.specs.Ordering.{int_eq}
use Rattle.std.specs.Cmp.Lexicographic.{pointwise}
use Rattle.dp_value.specs.declared.key.Key.{Key}
use Rattle.dp_value.specs.declared.key.Key.TheVariants.{Int, Text}

-- whether two keys are one key: the same integer, or the same bytes
abbrev pub key_eq : Key → Key → Bool
key_eq (Int a) (Int b) = int_eq a b
key_eq (Int a) (Text b) = false
key_eq (Text a) (Int b) = false
key_eq (Text a) (Text b) = pointwise nat_eq a b

-- what a key adds to the weight of its array
abbrev pub key_weight : Key → ℕ
key_weight (Int n) = 0
key_weight (Text bytes) = length bytes
