-- How a write goes: an array with a new value in it.
use Rattle.dp_value.specs.Data.{Table, Data, data_of_table, pairs_weight}
use Rattle.std.specs.Prelude.{◌<◌, Bool, List, [], ◌∷◌, Option, Some, None, Result, Ok, Err}
use Rattle.dp_value.specs.Table.{put, table_set, weight_limit}
use Rattle.dp_value.specs.declared.errors.WriteError.{WriteError}
use Rattle.dp_value.specs.declared.key.Key.{Key}
use Rattle.dp_value.specs.declared.errors.WriteError.TheVariants.{NextIndex}
use Rattle.dp_value.specs.Entry.{entry_at, pushed, then_data, then_key, written}

-- an array with a new value at the entry under these keys, or pushed there
abbrev pub written_in : List (Option Key) → Bool → Data → Table → Result Data WriteError
written_in [] push new t = pushed new t
written_in (key ∷ keys) push new t =
    then_key key (λ k. then_data (written keys push new (entry_at t k))
    (λ d. data_of_table (table_set t k d)))

-- a value under a key, where there is one left
abbrev pub put_under : Option Key → Data → Table → Result Data WriteError
put_under None d t = Err NextIndex
put_under (Some key) d t = Ok (data_of_table (table_set t key d))

-- pairs that would be too heavy with a value under a key
abbrev pub IsTooMuch : List (Key × Data) → Key → Data → Type 0
IsTooMuch ps key d = weight_limit < pairs_weight (put ps key d)

-- why a write is refused, if it is
abbrev pub cause_of : Result Data WriteError → Option WriteError
cause_of (Ok d) = None
cause_of (Err e) = Some e
