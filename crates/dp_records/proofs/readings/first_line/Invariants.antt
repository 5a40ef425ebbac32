use Rattle.std.proofs.Common.{◌≡◌, true, take}
use Rattle.dp_records.specs.inner.Audits.{has_no_feed}
use Rattle.dp_records.proofs.readings.first_line.Given as goal

abbrev pub invariant-loop-at : goal.invariant-loop-at
invariant-loop-at l = has_no_feed (take l.at l.bytes) ≡ true
