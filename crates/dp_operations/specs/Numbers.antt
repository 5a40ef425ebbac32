-- Arithmetic on 64-bit integers. Source: the PHP manual, "Arithmetic Operators" and "Integers".
use Rattle.std.specs.Prelude.{ℤ, pos, ◌+ℤ◌, ◌-ℤ◌, ◌*ℤ◌, cond, Option, Some, None, Result, Ok, Err, int_rem}
use Rattle.std.specs.Ordering.{int_eq}
use Rattle.dp_value.specs.declared.errors.ValueError.{ValueError}
use Rattle.dp_value.specs.declared.errors.ValueError.TheVariants.{Overflow, DivByZero, Unsupported}
use Rattle.dp_value.specs.Data.{Data, null, boolean, integer, text, array}
use Rattle.dp_bytes.specs.IntText.{is_in_64_bits}

-- the integer that an operand stands for: a bool is 0 or 1 and null 0; a text and an array are none
abbrev pub number_of : Data → Option ℤ
number_of null = Some (pos 0)
number_of (boolean b) = Some (cond b (pos 1) (pos 0))
number_of (integer n) = Some n
number_of (text bytes) = None
number_of (array es largest) = None

-- an integer, where it fits 64 bits
abbrev pub whole : ℤ → Result Data ValueError
whole n = cond (is_in_64_bits n) (Ok (integer n)) (Err Overflow)

abbrev pub sum_of : ℤ → ℤ → Result Data ValueError
sum_of m n = whole (m +ℤ n)

abbrev pub difference_of : ℤ → ℤ → Result Data ValueError
difference_of m n = whole (m -ℤ n)

abbrev pub product_of : ℤ → ℤ → Result Data ValueError
product_of m n = whole (m *ℤ n)

-- the remainder has the sign of the dividend
abbrev pub remainder_of : ℤ → ℤ → Result Data ValueError
remainder_of m n = cond (int_eq n (pos 0)) (Err DivByZero) (Ok (integer (int_rem m n)))

abbrev pub on_both : (ℤ → ℤ → Result Data ValueError) → Option ℤ → Option ℤ → Result Data ValueError
on_both f None n = Err Unsupported
on_both f (Some m) None = Err Unsupported
on_both f (Some m) (Some n) = f m n

-- an operation on two operands that stand for integers
abbrev pub on_numbers : (ℤ → ℤ → Result Data ValueError) → Data → Data → Result Data ValueError
on_numbers f a b = on_both f (number_of a) (number_of b)
