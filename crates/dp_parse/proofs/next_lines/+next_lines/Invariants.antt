use Rattle.std.proofs.Common.{◌≡◌, drop}
use Rattle.std.specs.List.{flat_map}
use Rattle.dp_tree.specs.CodeLines.{body_lines}
use Rattle.dp_tree.specs.inner.Parts.{arm_lines}
use Rattle.dp_parse.specs.NextCode.{least_between, lesser}
use Rattle.dp_parse.proofs.next_lines.+next_lines.Given as goal

abbrev pub invariant-arms_next-loop-arm : goal.invariant-arms_next-loop-arm
invariant-arms_next-loop-arm l =
    least_between l.from l.to (flat_map arm_lines l.arms) ≡ lesser l.next
    (least_between l.from l.to (flat_map arm_lines (drop l.arm-index l.arms)))

abbrev pub invariant-body_next-loop-statement : goal.invariant-body_next-loop-statement
invariant-body_next-loop-statement l =
    least_between l.from l.to (body_lines l.all) ≡ lesser l.next
    (least_between l.from l.to (body_lines (drop l.statement-index l.all)))
