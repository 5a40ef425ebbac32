use Rattle.std.proofs.Common.{◌≡◌, drop}
use Rattle.dp_engine.specs.inner.Unseen.{are_covered}
use Rattle.dp_engine.proofs.past.all_covered.Given as goal

abbrev pub invariant-loop-breakpoint : goal.invariant-loop-breakpoint
invariant-loop-breakpoint l =
    are_covered l.lines l.calls l.held ≡ are_covered l.lines l.calls (drop l.breakpoint-index l.held)
