use Rattle.std.proofs.Common.{length}
use Rattle.dp_actions.proofs.entry_reads.+is_missing_by.Given as goal

abbrev pub decreases-is_missing_by : goal.decreases-is_missing_by
decreases-is_missing_by l = length l.indices.now
