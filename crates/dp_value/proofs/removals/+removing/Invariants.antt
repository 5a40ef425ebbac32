use Rattle.std.proofs.Common.{◌+◌, ◌*◌, length}
use Rattle.dp_value.proofs.removals.+removing.Given as goal

abbrev pub decreases-take_away : goal.decreases-take_away
decreases-take_away l = 3 * length l.keys.now

abbrev pub decreases-take_from : goal.decreases-take_from
decreases-take_from l = 3 * length l.rest.now + 2

abbrev pub decreases-take_row : goal.decreases-take_row
decreases-take_row l = 3 * length l.rest.now + 1
