use Rattle.std.proofs.Common.{◌≡◌, take, map}
use Rattle.dp_tree.specs.Doubles.{HasNoDouble}
use Rattle.dp_tree.proofs.Taken.{lower_name}
use Rattle.dp_tree.proofs.doubles.first_double.Given as goal

abbrev pub invariant-loop-function : goal.invariant-loop-function
invariant-loop-function l =
    (l.names.keys ≡ map lower_name (take l.function-index l.functions))
    × HasNoDouble (take l.function-index l.functions)
