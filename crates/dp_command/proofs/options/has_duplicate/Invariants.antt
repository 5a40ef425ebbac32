use Rattle.std.proofs.Common.{◌≡◌, drop}
use Rattle.dp_command.specs.Options as spec
use Rattle.dp_command.proofs.options.has_duplicate.Given as goal

abbrev pub invariant-loop-at : goal.invariant-loop-at
invariant-loop-at l = spec.has_duplicate (drop l.at l.options) ≡ spec.has_duplicate l.options
