use Rattle.dp_async.proofs.Attending.{TakesSoFar}
use Rattle.dp_async.proofs.beside.take_rest.Given as goal

abbrev pub invariant-pieces : goal.invariant-pieces
invariant-pieces g l = TakesSoFar l.fn.polled l.polled
