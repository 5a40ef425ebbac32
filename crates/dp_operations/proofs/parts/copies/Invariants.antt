use Rattle.std.proofs.Common.{◌≡◌}
use Rattle.dp_operations.specs.Parts.{repeated}
use Rattle.dp_operations.proofs.parts.copies.Given as goal

abbrev pub invariant-loop : goal.invariant-loop
invariant-loop l = l.copies.items ≡ repeated l.counter l.bytes
