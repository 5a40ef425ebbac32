use Rattle.std.proofs.Common.{◌≡◌, true}
use Rattle.dp_threads_tests.proofs.post_threads.put_on.Given as goal

abbrev pub invariant-tries : goal.invariant-tries
invariant-tries g l = (l.seat.post ≡ l.fn.post) × (l.seat.may_put ≡ true)
