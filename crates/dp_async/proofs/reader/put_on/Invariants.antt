use Rattle.std.proofs.Common.{◌≡◌}
use Rattle.dp_async.proofs.reader.put_on.Given as goal

abbrev pub invariant-tries : goal.invariant-tries
invariant-tries g l =
    (l.unput ≡ l.fn.piece) × (l.seat.put ≡ l.fn.seat.put) × (l.seat.post ≡ l.fn.seat.post)
    × (l.seat.may_put ≡ l.fn.seat.may_put)
