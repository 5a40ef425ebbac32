use Rattle.std.proofs.Common.{◌≡◌, ◌++◌, drop, reverse}
use Rattle.dp_view.specs.Stacks.{lines_from}
use Rattle.dp_view.proofs.stacks.all_lines.Given as goal

abbrev pub invariant-loop-level : goal.invariant-loop-level
invariant-loop-level l =
    l.lines.items ++ lines_from l.bundle l.level (drop l.level (reverse l.frames)) ≡ lines_from l.bundle 0
    (reverse l.frames)
