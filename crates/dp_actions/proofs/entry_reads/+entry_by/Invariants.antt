use Rattle.std.proofs.Common.{length}
use Rattle.dp_actions.proofs.entry_reads.+entry_by.Given as goal

abbrev pub decreases-entry_by : goal.decreases-entry_by
decreases-entry_by l = length l.indices.now
