-- Values and what they stand for.
use Rattle.std.proofs.Common.{◌≡◌, refl, ap}
use Rattle.dp_value.specs.declared.value.Value.{Value}
use Rattle.dp_value.specs.declared.value.Value.TheVariants.{Null, Bool, Int, Text, Array}
use Rattle.dp_value.specs.inner.Codes.{table_from-data_of_table}
use Rattle.dp_value.specs.Value.{data_of, value_of}

pub value_of-data_of : (v : Value) → value_of (data_of v) ≡ v
value_of-data_of Null = refl
value_of-data_of (Bool b) = refl
value_of-data_of (Int n) = refl
value_of-data_of (Text bytes) = refl
value_of-data_of (Array t) = ap Array (table_from-data_of_table t)
