use Rattle.std.proofs.Common.{◌≡◌, ◌++◌, take}
use Rattle.dp_records.proofs.balances.owe.Given as goal

abbrev pub invariant-loop-byte : goal.invariant-loop-byte
invariant-loop-byte l = l.owed.items ≡ l.fn.owed.items ++ take l.byte-index l.bytes
