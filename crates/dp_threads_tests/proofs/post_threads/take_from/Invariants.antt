use Rattle.std.proofs.Common.{◌≡◌}
use Rattle.dp_threads_tests.proofs.post_threads.take_from.Given as goal

abbrev pub invariant-looks : goal.invariant-looks
invariant-looks g l = l.polled.seat.post ≡ l.fn.polled.seat.post

abbrev pub invariant-waits : goal.invariant-waits
invariant-waits g l = l.polled.seat.post ≡ l.fn.polled.seat.post
