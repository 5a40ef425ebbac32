use Rattle.std.proofs.Common.{◌≡◌, length}
use Rattle.dp_polled.specs.Arrivals.{next}
use Rattle.dp_polled.proofs.arrivals.Arrivals.skip.Given as goal

abbrev pub invariant-silent : goal.invariant-silent
invariant-silent l =
    (next l.self.left ≡ next l.initial.self.left) × (l.self.given ≡ l.initial.self.given)

abbrev pub decreases-silent : goal.decreases-silent
decreases-silent l = length l.self.left
