use Rattle.std.proofs.Common.{length}
use Rattle.dp_world.proofs.TallyLaws.{IsAdded}
use Rattle.dp_world.proofs.tallies.of_links.Given as goal

abbrev pub invariant-links : goal.invariant-links
invariant-links g l = IsAdded (g.A.Engines.known l.fn.engines) l.initial.left l.left l.tally

abbrev pub decreases-links : goal.decreases-links
decreases-links g l = length l.left
