-- `==` and the order of values. Where PHP would compare by rules that this subset leaves out, the
-- comparison is unsupported. Source: the PHP manual, "Comparison Operators".
use Rattle.std.specs.Prelude.{ℕ, Bool, true, false, ◌&&◌, cond, List, nat_eq, Result, Ok, Err}
use Rattle.std.specs.Char.{is_ascii_digit}
use Rattle.std.specs.Cmp.Lexicographic.{pointwise}
use Rattle.std.specs.List.{list_any}
use Rattle.std.specs.Ordering.{int_eq, int_cmp}
use Rattle.std.specs.declared.cmp.Ordering.{Ordering}
use mathlib.Core.Bool.{beq}
use Rattle.dp_value.specs.declared.errors.ValueError.{ValueError}
use Rattle.dp_value.specs.declared.errors.ValueError.TheVariants.{Unsupported}
use Rattle.dp_value.specs.Data.{Data, null, boolean, integer, text}

abbrev pub has_digit : List ℕ → Bool
has_digit bytes = list_any is_ascii_digit bytes

-- equal texts are equal; two others differ where one of them has no digit, since such a text is no
-- number
abbrev pub equal_texts : List ℕ → List ℕ → Result Bool ValueError
equal_texts a b =
    cond (pointwise nat_eq a b) (Ok true) (cond (has_digit a && has_digit b) (Err Unsupported)
    (Ok false))

abbrev pub equality : Data → Data → Result Bool ValueError
equality null null = Ok true
equality (boolean a) (boolean b) = Ok (beq a b)
equality (integer m) (integer n) = Ok (int_eq m n)
equality (text a) (text b) = equal_texts a b
equality _ _ = Err Unsupported

-- only integers are ordered
abbrev pub order_of : Data → Data → Result Ordering ValueError
order_of (integer m) (integer n) = Ok (int_cmp m n)
order_of _ _ = Err Unsupported
