-- Arrays: what a write, a push and a removal leave. Source: the PHP manual, "Arrays".
use Rattle.std.specs.Prelude.{ℕ, ℤ, pos, ◌+ℤ◌, ◌≤ℤ◌, ◌≤◌, Bool, cond, List, [], ◌∷◌, map, All, Option, Some, None, ⊤}
use Rattle.std.specs.List.{IsDistinct}
use Rattle.std.specs.Int.{int_max}
use Rattle.dp_value.specs.declared.key.Key.{Key}
use Rattle.dp_value.specs.declared.key.Key.TheVariants.{Int, Text}
use Rattle.dp_value.specs.Key.{key_eq}
use Rattle.dp_value.specs.Data.{Data, Table, pairs_weight}

-- the most that an array or a text may weigh
abbrev pub weight_limit : ℕ
weight_limit = 1048576

-- the largest integer key
abbrev pub largest_int : ℤ
largest_int = pos 9223372036854775807

-- no entry, and no integer key ever used
abbrev pub empty : Table
empty = record { pairs = []; largest = None }

abbrev pub keys_of : List (Key × Data) → List Key
keys_of ps = map (λ p. p.0) ps

abbrev pub values_of : List (Key × Data) → List Data
values_of ps = map (λ p. p.1) ps

-- the value under a key
abbrev pub find_value : (Key → Bool) → List (Key × Data) → Option Data
find_value is_key [] = None
find_value is_key (p ∷ ps) = cond (is_key p.0) (Some p.1) (find_value is_key ps)

abbrev pub value_at : Table → Key → Option Data
value_at t key = find_value (key_eq key) t.pairs

-- the pairs with a value under a key: a present key keeps its place, a new one goes last
abbrev pub put : List (Key × Data) → Key → Data → List (Key × Data)
put [] key d = (key, d) ∷ []
put (p ∷ ps) key d = cond (key_eq key p.0) ((p.0, d) ∷ ps) (p ∷ put ps key d)

-- the pairs with a value in the place of the one under a key; without the key they stay
abbrev pub swapped : List (Key × Data) → Key → Data → List (Key × Data)
swapped [] key d = []
swapped (p ∷ ps) key d = cond (key_eq key p.0) ((p.0, d) ∷ ps) (p ∷ swapped ps key d)

-- the pairs without a key
abbrev pub take_away : List (Key × Data) → Key → List (Key × Data)
take_away [] key = []
take_away (p ∷ ps) key = cond (key_eq key p.0) ps (p ∷ take_away ps key)

-- the largest integer key used, once this key is used too
abbrev pub raised : Option ℤ → Key → Option ℤ
raised largest (Text bytes) = largest
raised None (Int n) = Some n
raised (Some m) (Int n) = Some (int_max m n)

-- the next integer key: one more than the largest ever used, or 0
abbrev pub next_key : Option ℤ → ℤ
next_key None = pos 0
next_key (Some m) = m +ℤ pos 1

abbrev pub table_set : Table → Key → Data → Table
table_set t key d = record { pairs = put t.pairs key d; largest = raised t.largest key }

abbrev pub table_push : Table → Data → Table
table_push t d = table_set t (Int (next_key t.largest)) d

-- a removal closes up, and leaves the largest integer key that was used
abbrev pub table_remove : Table → Key → Table
table_remove t key = record { pairs = take_away t.pairs key; largest = t.largest }

abbrev pub table_exchange : Table → Key → Data → Table
table_exchange t key d = record { pairs = swapped t.pairs key d; largest = t.largest }

-- no integer key is above the largest one used
abbrev pub IsUpTo : Option ℤ → Key → Type 0
IsUpTo largest (Text bytes) = ⊤
IsUpTo None (Int n) = ⊥
IsUpTo (Some m) (Int n) = n ≤ℤ m

-- what holds of every array
pub record IsTable (t : Table) : Type 0 where
  pub distinct : IsDistinct key_eq (keys_of t.pairs)
  pub up_to : All (IsUpTo t.largest) (keys_of t.pairs)
  pub light : pairs_weight t.pairs ≤ weight_limit
