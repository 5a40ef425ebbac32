use Rattle.std.proofs.Common.{◌≤◌}
use Rattle.dp_engine.proofs.past.lines_of.Given as goal

abbrev pub invariant-loop-breakpoint : goal.invariant-loop-breakpoint
invariant-loop-breakpoint l = l.count ≤ 16
