use Rattle.std.proofs.Common.{◌≡◌, drop}
use Rattle.dp_value.specs.Value.{data_of}
use Rattle.dp_view.specs.Places.{value_under}
use Rattle.dp_view.proofs.places.value_under.Given as goal

abbrev pub invariant-loop-key : goal.invariant-loop-key
invariant-loop-key l = value_under (drop l.key-index l.keys) (data_of l.found) ≡ value_under l.keys (data_of l.value)
