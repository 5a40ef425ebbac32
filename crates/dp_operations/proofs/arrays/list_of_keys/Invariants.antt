use Rattle.std.proofs.Common.{◌≡◌, ◌≤◌, map, take}
use Rattle.dp_value.specs.declared.key.Key.{Key}
use Rattle.dp_value.specs.Data.{Data, data_of_key, pairs_weight}
use Rattle.dp_value.specs.Table.{weight_limit}
use Rattle.dp_operations.specs.Lists.{list_of}
use Rattle.dp_operations.proofs.arrays.list_of_keys.Given as goal

abbrev pub invariant-loop-at : goal.invariant-loop-at
invariant-loop-at l =
    (l.list ≡ list_of (map (λ (p : Key × Data). data_of_key p.0) (take l.at l.array.pairs)))
    × (pairs_weight l.list.pairs ≤ weight_limit)
