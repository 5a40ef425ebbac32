use Rattle.std.proofs.Common.{◌+◌, ◌*◌, length}
use Rattle.dp_value.proofs.refusals.+refusing.Given as goal

abbrev pub decreases-refusal : goal.decreases-refusal
decreases-refusal l = 2 * length l.keys.now + 1

abbrev pub decreases-refusal_in : goal.decreases-refusal_in
decreases-refusal_in l = 2 * length l.keys.now
