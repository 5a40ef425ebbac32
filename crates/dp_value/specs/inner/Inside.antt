-- How an array is kept: its keys and its values side by side, some rows of which may be removed
-- already, and the weight of the pairs that are left.
use Rattle.std.specs.Prelude.{◌≡◌, List}
use Rattle.dp_value.specs.declared.value.Columns.TheInside.{Inside}
use Rattle.dp_value.specs.declared.key.Key.{Key}
use Rattle.dp_value.specs.declared.value.Value.{Value}
use Rattle.dp_value.specs.Data.{Table, pairs_weight}
use Rattle.dp_value.specs.Table.{IsTable}
use Rattle.dp_value.specs.Value.{pairs_in}
use Rattle.dp_value.specs.inner.Kept.{is_rising, kept_keys}
use Rattle.dp_value.specs.inner.Left.{left}
use Rattle.dp_value.specs.inner.Rows.{AreRows}

abbrev pub keys_left : Inside → List Key
keys_left a = left a.start a.gone (kept_keys a.kept)

abbrev pub values_left : Inside → List Value
values_left a = left a.start a.gone a.values.items

abbrev pub table_of : Inside → Table
table_of a = record { pairs = pairs_in (keys_left a) (values_left a); largest = a.largest }

pub record IsArray (a : Inside) : Type 0 where
  pub rows : AreRows a.start a.gone (is_rising a.kept) (kept_keys a.kept) a.values.items
  pub table : IsTable (table_of a)
  pub weight : a.weight ≡ pairs_weight (table_of a).pairs
