-- The rows of an array, of which some are removed already: so many from a row on, whose values
-- are null.
use Rattle.std.specs.Prelude.{◌≡◌, ◌+◌, ◌<◌, ◌≤◌, ℕ, Bool, true, false, List, [], ◌∷◌, ◌++◌, get_or, length, ⊤}
use Rattle.dp_value.specs.declared.key.Key.{Key}
use Rattle.dp_value.specs.declared.value.Value.{Value}
use Rattle.dp_value.specs.declared.value.Value.TheVariants.{Null}
use Rattle.dp_value.specs.Data.{Data}
use Rattle.dp_value.specs.Key.{key_eq}
use Rattle.dp_value.specs.Place.{IsAbsent}
use Rattle.dp_value.specs.Value.{pairs_in}
use Rattle.dp_value.specs.inner.Left.{left}
use Rattle.dp_value.specs.inner.Rising.{IsRising}

-- so many rows from a row on are there, and they are null
pub record AreNull (start gone : ℕ) (vs : List Value) : Type 0 where
  pub within : start + gone ≤ length vs
  pub null : (row : ℕ) → start ≤ row → row < start + gone → get_or vs row Null ≡ Null

-- the pairs of the keys and the values that are left
abbrev pub left_in : ℕ → ℕ → List Key → List Value → List (Key × Data)
left_in start gone ks vs = pairs_in (left start gone ks) (left start gone vs)

-- keys rise where they stand in a vector
abbrev pub Rises : Bool → List Key → Type 0
Rises true ks = IsRising ks
Rises false ks = ⊤

-- a key can stand behind those in all rows: integers go on rising with it, or a set lacks it
abbrev pub GoesLast : ℕ → ℕ → Bool → List Key → Key → Type 0
GoesLast start gone true ks key = IsRising (left start gone ks ++ key ∷ [])
GoesLast start gone false ks key = IsAbsent (key_eq key) ks

-- a column of keys, in a vector or in a set
pub record AreKeys (start gone : ℕ) (rising : Bool) (ks : List Key) : Type 0 where
  pub within : start + gone ≤ length ks
  pub rises : Rises rising (left start gone ks)

-- and a column of values beside it
pub record AreRows (start gone : ℕ) (rising : Bool) (ks : List Key) (vs : List Value) : Type 0 where
  pub keys : AreKeys start gone rising ks
  pub nulls : AreNull start gone vs
  pub same_length : length vs ≡ length ks
