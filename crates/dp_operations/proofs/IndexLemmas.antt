-- The reading of an entry of an array.
use Rattle.std.proofs.Common.{◌≡◌, Bool, true, false, Option, Some, Ok, Err, unwrap_or, sym, ap, ◌∙◌}
use Rattle.std.specs.Option.{option_map_or}
use Rattle.dp_value.specs.declared.errors.ValueError.TheVariants.{BadKey}
use Rattle.dp_value.specs.declared.key.Key.{Key}
use Rattle.dp_value.specs.inner.Codes.{table_from, table_from-data_of_table}
use Rattle.dp_value.specs.Data.{Data, Table, data_of_table, null}
use Rattle.dp_value.specs.KeyOf.{key_of_data}
use Rattle.dp_value.specs.Table.{value_at}
use Rattle.dp_operations.specs.Indices.{looked_up, or_null, reading}

-- the value under the key that an index becomes, or null
array-looked_up : (t : Table) (index : Data) (key : Key) (found : Option Data) → key_of_data index ≡ Some key
    → found ≡ value_at t key →
    looked_up (data_of_table t) index ≡ Ok (unwrap_or found null)
array-looked_up t index key found is there =
    ap (λ (o : Option Key). or_null (option_map_or (λ k. Ok (value_at (table_from (data_of_table t)) k)) o
    (Err BadKey))) is
    ∙ ap (λ (u : Table). or_null (Ok (value_at u key))) (table_from-data_of_table t)
    ∙ ap (λ (o : Option Data). or_null (Ok o)) (sym there)

pub array-read : (plain : Bool) (t : Table) (index : Data) (key : Key) (found : Option Data)
    → key_of_data index ≡ Some key → found ≡ value_at t key →
    reading plain (data_of_table t) index ≡ Ok (unwrap_or found null)
array-read true t index key found is there = array-looked_up t index key found is there
array-read false t index key found is there = array-looked_up t index key found is there
