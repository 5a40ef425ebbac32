-- What a value stands for.
use Rattle.std.specs.Prelude.{List, map}
use Rattle.std.specs.List.{zip}
use Rattle.dp_value.specs.declared.key.Key.{Key}
use Rattle.dp_value.specs.declared.value.Value.{Value}
use Rattle.dp_value.specs.declared.value.Value.TheVariants.{Null, Bool, Int, Text, Array}
use Rattle.dp_value.specs.Data.{Data, null, boolean, integer, text, array, pairs_of, data_of_table}

abbrev pub data_of : Value → Data
data_of Null = null
data_of (Bool b) = boolean b
data_of (Int n) = integer n
data_of (Text bytes) = text bytes
data_of (Array t) = data_of_table t

-- the value that stands for this
abbrev pub value_of : Data → Value
value_of null = Null
value_of (boolean b) = Bool b
value_of (integer n) = Int n
value_of (text bytes) = Text bytes
value_of (array es largest) = Array (record { pairs = pairs_of es; largest = largest })

-- a column of keys and a column of values, as pairs
abbrev pub pairs_in : List Key → List Value → List (Key × Data)
pairs_in ks vs = zip ks (map data_of vs)
