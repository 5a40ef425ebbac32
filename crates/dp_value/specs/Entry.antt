-- The write and the removal of one entry at any depth, as `$a[1][2] = 3`, `$a[1][] = 3` and
-- `unset($a[1][2])`. Source: the PHP manual, "Arrays".
use Rattle.std.specs.Prelude.{◌≡◌, ℕ, ◌+◌, ◌==◌, Bool, true, false, cond, if◌then◌else◌, nat_le, List, [], ◌∷◌, length, Option, Some, None, Result, Ok, Err, unwrap_or, ◌⊎◌}
use Rattle.std.specs.Ordering.{int_eq}
use Rattle.std.specs.Option.{option_map_or}
use Rattle.dp_value.specs.declared.errors.WriteError.{WriteError}
use Rattle.dp_value.specs.declared.errors.WriteError.TheVariants.{Scalar, Unsupported, BadKey, NextIndex, TooHeavy, Memory}
use Rattle.dp_value.specs.declared.key.Key.{Key}
use Rattle.dp_value.specs.Data.{Data, Table, null, boolean, integer, text, array, pairs_of, data_of_table, weight_of}
use Rattle.dp_value.specs.Table.{empty, largest_int, table_set, table_push, table_remove, table_exchange, value_at, weight_limit}

-- the array into which an entry of a value is written: null and false become one; true and an
-- integer hold no entries, and those of a text cannot be written
abbrev pub holder_of : Data → Result Table WriteError
holder_of null = Ok empty
holder_of (boolean true) = Err Scalar
holder_of (boolean false) = Ok empty
holder_of (integer n) = Err Scalar
holder_of (text bytes) = Err Unsupported
holder_of (array es largest) = Ok (record { pairs = pairs_of es; largest = largest })

abbrev pub then_table : Result Table WriteError → (Table → Result Data WriteError)
    → Result Data WriteError
then_table (Ok t) f = f t
then_table (Err e) f = Err e

abbrev pub then_data : Result Data WriteError → (Data → Data) → Result Data WriteError
then_data (Ok d) f = Ok (f d)
then_data (Err e) f = Err e

-- the value under a key, or null
abbrev pub entry_at : Table → Key → Data
entry_at t key = unwrap_or (value_at t key) null

-- whether the largest integer key was used
abbrev pub is_full : Table → Bool
is_full t = option_map_or (λ m. int_eq m largest_int) t.largest false

-- a value pushed into an array
abbrev pub pushed : Data → Table → Result Data WriteError
pushed d t = cond (is_full t) (Err NextIndex) (Ok (data_of_table (table_push t d)))

-- an index becomes a key when its array is reached; one that is itself an array is no key
abbrev pub then_key : Option Key → (Key → Result Data WriteError) → Result Data WriteError
then_key None f = Err BadKey
then_key (Some key) f = f key

-- a value with a new one at the entry under these keys, or pushed into it, weights left aside: each
-- holder is tested, then its key, then what is under it
abbrev pub written : List (Option Key) → Bool → Data → Data → Result Data WriteError
written [] false new old = Ok new
written [] true new old = then_table (holder_of old) (pushed new)
written (key ∷ keys) push new old =
    then_table (holder_of old) (λ t. then_key key (λ k. then_data
    (written keys push new (entry_at t k)) (λ d. data_of_table (table_set t k d))))

-- a value that weighs at most the limit; an array in it weighs no more than it
abbrev pub light : Result Data WriteError → Result Data WriteError
light (Err e) = Err e
light (Ok d) = cond (nat_le (weight_of d) weight_limit) (Ok d) (Err TooHeavy)

-- what a write gives: the written value, or the cause of a refusal
abbrev pub write_result : List (Option Key) → Bool → Data → Data → Result Data WriteError
write_result keys push new old = light (written keys push new old)

-- why a write may be refused: for the cause that it has, or out of memory
abbrev pub IsCause : Result Data WriteError → WriteError → Type 0
IsCause asked e = (e ≡ Memory) ⊎ (asked ≡ Err e)

-- ---- the removal of an entry. Source: the PHP manual, "unset".

-- what an array becomes; null and false stay, true and an integer hold no entries, and those of a
-- text cannot be removed
abbrev pub in_array : Data → (Table → Result Data WriteError) → Result Data WriteError
in_array null f = Ok null
in_array (boolean true) f = Err Scalar
in_array (boolean false) f = Ok (boolean false)
in_array (integer n) f = Err Scalar
in_array (text bytes) f = Err Unsupported
in_array (array es largest) f = f (record { pairs = pairs_of es; largest = largest })

-- an array with another value for the one under a key; without the key it stays
abbrev pub with_entry : Table → Key → (Data → Result Data WriteError) → Option Data
    → Result Data WriteError
with_entry t key f None = Ok (data_of_table t)
with_entry t key f (Some d) = then_data (f d) (λ e. data_of_table (table_exchange t key e))

-- a value without the entry under these keys: what holds it is tested, then its key, then what is
-- under it; where an entry is missing on the way, all stays
abbrev pub removed : List (Option Key) → Data → Result Data WriteError
removed [] d = Ok d
removed (key ∷ keys) d =
    in_array d (λ t. then_key key (λ k. if length keys == 0
    then Ok (data_of_table (table_remove t k))
    else with_entry t k (removed keys) (value_at t k)))

-- ---- inside the crate

-- a value, where it and what weighs beside it stay within the weight limit
abbrev pub within : ℕ → Result Data WriteError → Result Data WriteError
within beside (Err e) = Err e
within beside (Ok d) = cond (nat_le (beside + weight_of d) weight_limit) (Ok d) (Err TooHeavy)
