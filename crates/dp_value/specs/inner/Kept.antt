-- How keys are kept: integers that rise in a vector, others in a set.
use Rattle.std.specs.Prelude.{Bool, true, false, List}
use Rattle.dp_value.specs.declared.key.Key.{Key}
use Rattle.dp_value.specs.declared.kept.Kept.{Kept}
use Rattle.dp_value.specs.declared.kept.Kept.TheVariants.{Rising, Indexed}

abbrev pub kept_keys : Kept → List Key
kept_keys (Rising keys) = keys.items
kept_keys (Indexed keys) = keys.keys

abbrev pub is_rising : Kept → Bool
is_rising (Rising keys) = true
is_rising (Indexed keys) = false
