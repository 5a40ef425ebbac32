-- What a reading finds, as data.
use Rattle.std.specs.Prelude.{[], ◌∷◌}
use Rattle.dp_value.specs.Data.{null, text, Data}
use Rattle.dp_operations.specs.declared.indices.Found.TheVariants.{Nothing, Entry, Letter}
use Rattle.dp_value.specs.Value.{data_of}
use Rattle.dp_operations.specs.declared.indices.Found.{Found}

-- what stands under an index, as data
abbrev pub data_of_found : Found → Data
data_of_found Nothing = null
data_of_found (Letter byte) = text (byte ∷ [])
data_of_found (Entry value) = data_of value.now
