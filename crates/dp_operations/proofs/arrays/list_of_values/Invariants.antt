use Rattle.std.proofs.Common.{◌≡◌, ◌≤◌, take}
use Rattle.dp_value.specs.Data.{pairs_weight}
use Rattle.dp_value.specs.Table.{values_of, weight_limit}
use Rattle.dp_operations.specs.Lists.{list_of}
use Rattle.dp_operations.proofs.arrays.list_of_values.Given as goal

abbrev pub invariant-loop-at : goal.invariant-loop-at
invariant-loop-at l =
    (l.list ≡ list_of (values_of (take l.at l.array.pairs))) × (pairs_weight l.list.pairs ≤ weight_limit)
