-- The table of the operators between two values. Source: the PHP manual, "Operators".
use Rattle.std.specs.Prelude.{ℤ, pos, negsuc, Bool, not, Result, Ok, Err}
use Rattle.std.specs.Ordering.{is_lt, is_le, is_gt, is_ge}
use Rattle.std.specs.declared.cmp.Ordering.{Ordering}
use Rattle.std.specs.declared.cmp.Ordering.TheVariants.{Less as Below, Equal as Level, Greater as Above}
use Rattle.dp_value.specs.declared.errors.ValueError.{ValueError}
use Rattle.dp_tree.specs.declared.operators.BinaryOp.{BinaryOp}
use Rattle.dp_tree.specs.declared.operators.BinaryOp.TheVariants.{Add, Sub, Mul, Rem, Concat, Equal, NotEqual, Identical, NotIdentical, Less, LessEqual, Greater, GreaterEqual, Spaceship}
use Rattle.dp_value.specs.Comparison.{identical}
use Rattle.dp_value.specs.Data.{Data, boolean, integer}
use Rattle.dp_operations.specs.Comparisons.{equality, order_of}
use Rattle.dp_operations.specs.Numbers.{on_numbers, sum_of, difference_of, product_of, remainder_of}
use Rattle.dp_operations.specs.Text.{joined}

abbrev pub truth : Result Bool ValueError → Result Data ValueError
truth (Ok b) = Ok (boolean b)
truth (Err e) = Err e

abbrev pub denial : Result Bool ValueError → Result Data ValueError
denial (Ok b) = Ok (boolean (not b))
denial (Err e) = Err e

abbrev pub by_order : (Ordering → Bool) → Result Ordering ValueError → Result Data ValueError
by_order test (Ok o) = Ok (boolean (test o))
by_order test (Err e) = Err e

abbrev pub sign_of : Ordering → ℤ
sign_of Below = negsuc 0
sign_of Level = pos 0
sign_of Above = pos 1

abbrev pub sign : Result Ordering ValueError → Result Data ValueError
sign (Ok o) = Ok (integer (sign_of o))
sign (Err e) = Err e

abbrev pub binary_of : BinaryOp → Data → Data → Result Data ValueError
binary_of Add a b = on_numbers sum_of a b
binary_of Sub a b = on_numbers difference_of a b
binary_of Mul a b = on_numbers product_of a b
binary_of Rem a b = on_numbers remainder_of a b
binary_of Concat a b = joined a b
binary_of Equal a b = truth (equality a b)
binary_of NotEqual a b = denial (equality a b)
binary_of Identical a b = Ok (boolean (identical a b))
binary_of NotIdentical a b = Ok (boolean (not (identical a b)))
binary_of Less a b = by_order is_lt (order_of a b)
binary_of LessEqual a b = by_order is_le (order_of a b)
binary_of Greater a b = by_order is_gt (order_of a b)
binary_of GreaterEqual a b = by_order is_ge (order_of a b)
binary_of Spaceship a b = sign (order_of a b)
