use Rattle.std.proofs.Common.{◌≡◌, map, take}
use Rattle.dp_value.specs.Table.{values_of}
use Rattle.dp_value.specs.Value.{data_of}
use Rattle.dp_operations.proofs.arrays.values.Given as goal

abbrev pub invariant-loop-at : goal.invariant-loop-at
invariant-loop-at l = map data_of l.values.items ≡ values_of (take l.at l.array.pairs)
