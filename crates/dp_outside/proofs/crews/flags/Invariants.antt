use Rattle.std.proofs.Common.{◌≡◌, length}
use Rattle.dp_outside.proofs.crews.flags.Given as goal

abbrev pub invariant-loop : goal.invariant-loop
invariant-loop l = length l.flags.items ≡ l.counter
