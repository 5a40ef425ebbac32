use Rattle.std.proofs.Common.{◌≡◌, ◌++◌, ◌≤◌, drop, map}
use Rattle.dp_break.specs.Shown.{breakpoint_line}
use Rattle.dp_break.specs.inner.LineSizes.{fitting}
use Rattle.dp_break.proofs.lists.fitting_lines.Given as goal

abbrev pub invariant-loop-breakpoint : goal.invariant-loop-breakpoint
invariant-loop-breakpoint l =
    (l.left ≤ l.room)
    × (l.lines.items ++ fitting l.left (map (breakpoint_line l.bundle) (drop l.breakpoint-index l.held)) ≡ fitting
    l.room (map (breakpoint_line l.bundle) l.held))
