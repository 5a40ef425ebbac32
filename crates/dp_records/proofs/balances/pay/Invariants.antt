use Rattle.std.proofs.Common.{◌≡◌, ◌++◌, take}
use Rattle.dp_records.proofs.balances.pay.Given as goal

abbrev pub invariant-loop-at : goal.invariant-loop-at
invariant-loop-at l = l.fn.owed.items ≡ take l.at l.bytes ++ l.owed.items
