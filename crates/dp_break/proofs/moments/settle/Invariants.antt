use Rattle.dp_break.proofs.Steps.{IsSettledTo}
use Rattle.dp_break.proofs.moments.settle.Given as goal

abbrev pub invariant-places : goal.invariant-places
invariant-places l = IsSettledTo l.marks l.initial.held.items l.held.items l.stopped l.at

abbrev pub decreases-places : goal.decreases-places
decreases-places l = l.at
