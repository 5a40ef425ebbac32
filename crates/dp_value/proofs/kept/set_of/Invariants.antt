use Rattle.std.proofs.Common.{◌≡◌, take}
use Rattle.dp_value.proofs.kept.set_of.Given as goal

abbrev pub invariant-loop-key : goal.invariant-loop-key
invariant-loop-key l = l.set.keys ≡ take l.key-index l.keys
