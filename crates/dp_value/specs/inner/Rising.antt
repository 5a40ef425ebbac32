-- Integer keys that rise: each is greater than the one before it.
use Rattle.std.specs.Prelude.{ℤ, ◌<ℤ◌, List, [], ◌∷◌, Option, Some, None, ⊤}
use Rattle.std.specs.Ordering.{int_cmp}
use Rattle.std.specs.declared.cmp.Ordering.{Ordering}
use Rattle.dp_value.specs.declared.key.Key.{Key}
use Rattle.dp_value.specs.declared.key.Key.TheVariants.{Int, Text}

-- how two integers stand to each other; a text stands to nothing
abbrev pub integer_order : Key → Key → Option Ordering
integer_order (Int m) (Int n) = Some (int_cmp m n)
integer_order (Int m) (Text bytes) = None
integer_order (Text bytes) k = None

-- integers that rise from above a number
abbrev pub RiseFrom : ℤ → List Key → Type 0
RiseFrom m [] = ⊤
RiseFrom m (Int n ∷ ks) = (m <ℤ n) × RiseFrom n ks
RiseFrom m (Text bytes ∷ ks) = ⊥

abbrev pub IsRising : List Key → Type 0
IsRising [] = ⊤
IsRising (Int n ∷ ks) = RiseFrom n ks
IsRising (Text bytes ∷ ks) = ⊥
