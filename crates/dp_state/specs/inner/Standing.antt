-- The constants that are there from the start, before they take memory.
use Rattle.std.specs.Prelude.{[], ◌∷◌}
use Rattle.dp_value.specs.declared.value.Value.{Value}
use Rattle.dp_value.specs.declared.value.Value.TheVariants as value
use Rattle.dp_state.specs.declared.constants.Standing.{Standing}
use Rattle.dp_state.specs.declared.constants.Standing.TheVariants.{Byte, Int}

-- the value that it has
abbrev pub value_of : Standing → Value
value_of (Byte b) = value.Text (b ∷ [])
value_of (Int n) = value.Int n
