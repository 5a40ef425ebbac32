-- Which values count as true: all but null, false, 0, the empty text, the text `0` and the empty
-- array. Source: the PHP manual, "Booleans".
use Rattle.std.specs.Prelude.{Bool, true, false, not, pos, [], ◌∷◌, nat_eq}
use Rattle.std.specs.Ordering.{int_eq}
use Rattle.std.specs.Cmp.Lexicographic.{pointwise}
use Rattle.dp_value.specs.Data.{Data, null, boolean, integer, text, array, no_entries, entry}

abbrev pub is_true : Data → Bool
is_true null = false
is_true (boolean b) = b
is_true (integer n) = not (int_eq n (pos 0))
is_true (text []) = false
is_true (text (c ∷ cs)) = not (pointwise nat_eq (c ∷ cs) (48 ∷ []))
is_true (array no_entries largest) = false
is_true (array (entry k d es) largest) = true
