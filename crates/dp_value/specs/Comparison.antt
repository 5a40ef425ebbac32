-- `===`: the same type and value; arrays with the same pairs in the same order. Source: the PHP
-- manual, "Comparison Operators".
use Rattle.std.specs.Prelude.{Bool, true, false, ◌&&◌, nat_eq}
use mathlib.Core.Bool.{beq}
use Rattle.std.specs.Ordering.{int_eq}
use Rattle.std.specs.Cmp.Lexicographic.{pointwise}
use Rattle.dp_value.specs.Key.{key_eq}
use Rattle.dp_value.specs.Data.{Data, Entries, null, boolean, integer, text, array, no_entries, entry}

abbrev mutual
  pub identical : Data → Data → Bool
  identical null null = true
  identical (boolean a) (boolean b) = beq a b
  identical (integer m) (integer n) = int_eq m n
  identical (text a) (text b) = pointwise nat_eq a b
  identical (array es largest) (array fs other) = identical_entries es fs
  identical _ _ = false

  pub identical_entries : Entries → Entries → Bool
  identical_entries no_entries no_entries = true
  identical_entries no_entries (entry l e fs) = false
  identical_entries (entry k d es) no_entries = false
  identical_entries (entry k d es) (entry l e fs) =
      key_eq k l && (identical d e && identical_entries es fs)
