use Rattle.std.proofs.Common.{◌≡◌, true}
use Rattle.dp_threads_tests.proofs.post_threads.put_all.Given as goal

abbrev pub invariant-bytes : goal.invariant-bytes
invariant-bytes g l = (l.seat.post ≡ l.fn.post) × (l.seat.may_put ≡ true)
