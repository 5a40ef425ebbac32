-- The table of the operators on one value. Source: the PHP manual, "Operators".
use Rattle.std.specs.Prelude.{ℤ, pos, ◌+ℤ◌, ◌-ℤ◌, not, Option, Some, None, Result, Ok, Err}
use lib.IntN.{neg_ℤ}
use Rattle.dp_value.specs.declared.errors.ValueError.{ValueError}
use Rattle.dp_value.specs.declared.errors.ValueError.TheVariants.{Unsupported}
use Rattle.dp_tree.specs.declared.operators.UnaryOp.{UnaryOp}
use Rattle.dp_tree.specs.declared.operators.UnaryOp.TheVariants.{Not, Minus, Plus, Increment, Decrement}
use Rattle.dp_value.specs.Data.{Data, null, boolean, integer, text, array}
use Rattle.dp_value.specs.Truth.{is_true}
use Rattle.dp_operations.specs.Numbers.{number_of, whole}

abbrev pub negative_of : Option ℤ → Result Data ValueError
negative_of None = Err Unsupported
negative_of (Some n) = whole (neg_ℤ n)

abbrev pub positive_of : Option ℤ → Result Data ValueError
positive_of None = Err Unsupported
positive_of (Some n) = Ok (integer n)

-- null becomes 1
abbrev pub incremented : Data → Result Data ValueError
incremented null = Ok (integer (pos 1))
incremented (integer n) = whole (n +ℤ pos 1)
incremented (boolean b) = Err Unsupported
incremented (text bytes) = Err Unsupported
incremented (array es largest) = Err Unsupported

-- null stays
abbrev pub decremented : Data → Result Data ValueError
decremented null = Ok null
decremented (integer n) = whole (n -ℤ pos 1)
decremented (boolean b) = Err Unsupported
decremented (text bytes) = Err Unsupported
decremented (array es largest) = Err Unsupported

abbrev pub unary_of : UnaryOp → Data → Result Data ValueError
unary_of Not a = Ok (boolean (not (is_true a)))
unary_of Minus a = negative_of (number_of a)
unary_of Plus a = positive_of (number_of a)
unary_of Increment a = incremented a
unary_of Decrement a = decremented a
