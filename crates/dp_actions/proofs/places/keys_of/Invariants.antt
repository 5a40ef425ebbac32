use Rattle.std.proofs.Common.{◌≡◌, ◌++◌, drop}
use Rattle.dp_state.specs.Places.{keys_of_indices}
use Rattle.dp_actions.proofs.places.keys_of.Given as goal

abbrev pub invariant-loop-index : goal.invariant-loop-index
invariant-loop-index l = l.keys.items ++ keys_of_indices (drop l.index-index l.indices) ≡ keys_of_indices l.indices
