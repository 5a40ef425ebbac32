use Rattle.std.proofs.Common.{◌+◌, ◌*◌, length}
use Rattle.dp_value.proofs.removals.+looking.Given as goal

abbrev pub decreases-unchanged : goal.decreases-unchanged
decreases-unchanged l = 2 * length l.keys.now

abbrev pub decreases-unchanged_in : goal.decreases-unchanged_in
decreases-unchanged_in l = 2 * length l.rest.now + 1
