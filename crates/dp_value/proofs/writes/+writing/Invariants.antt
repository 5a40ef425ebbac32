use Rattle.std.proofs.Common.{◌+◌, ◌*◌, length}
use Rattle.dp_value.proofs.writes.+writing.Given as goal

abbrev pub decreases-write : goal.decreases-write
decreases-write l = 4 * length l.keys.now + 3

abbrev pub decreases-write_into : goal.decreases-write_into
decreases-write_into l = 4 * length l.keys.now + 2

abbrev pub decreases-write_new : goal.decreases-write_new
decreases-write_new l = 4 * length l.keys.now + 1

abbrev pub decreases-write_row : goal.decreases-write_row
decreases-write_row l = 4 * length l.keys.now
