-- The built-in functions by the lengths of their names.
use Rattle.std.specs.Prelude.{ℕ, List, length, nat_eq}
use Rattle.std.specs.List.{filter}
use Rattle.dp_tree.specs.declared.operators.Native.{Native}
use Rattle.dp_tree.specs.Builtins.{builtins}

-- those of these whose names have so many letters
abbrev pub of_length : ℕ → List (List ℕ × Native) → List (List ℕ × Native)
of_length n all = filter (λ b. nat_eq n (length b.0)) all

abbrev pub sized : ℕ → List (List ℕ × Native)
sized n = of_length n builtins
