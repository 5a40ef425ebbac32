-- How a removal goes: an array without an entry, and what is answered where nothing changes.
use Rattle.std.specs.Prelude.{◌≡◌, ◌==◌, if◌then◌else◌, List, length, Option, Some, None}
use Rattle.std.specs.Prelude.{Result, Ok, Err, IsOk}
use Rattle.dp_value.specs.declared.errors.WriteError.{WriteError}
use Rattle.dp_value.specs.declared.key.Key.{Key}
use Rattle.dp_value.specs.Data.{Data, Table, data_of_table}
use Rattle.dp_value.specs.Table.{table_remove, value_at}
use Rattle.dp_value.specs.Entry.{removed, with_entry}

-- an array without the entry under a key and those behind it
abbrev pub removed_in : Key → List (Option Key) → Table → Result Data WriteError
removed_in key rest t =
    if length rest == 0
    then Ok (data_of_table (table_remove t key))
    else with_entry t key (removed rest) (value_at t key)

-- what is asked gives the value as it was, or the cause; where nothing is answered, some value
abbrev pub IsAnswer : {X : Type 0} → Result Data WriteError → Data → Option (Result X WriteError)
    → Type 0
IsAnswer asked d None = IsOk asked
IsAnswer asked d (Some (Ok x)) = asked ≡ Ok d
IsAnswer asked d (Some (Err why)) = asked ≡ Err why
