use Rattle.std.proofs.Common.{◌≡◌, drop}
use Rattle.std.specs.List.{flat_map}
use Rattle.dp_tree.specs.CodeLines.{body_lines, has_line}
use Rattle.dp_tree.specs.inner.Parts.{arm_lines}
use Rattle.dp_tree.proofs.lines.+lines.Given as goal

abbrev pub invariant-arms_have-loop-arm : goal.invariant-arms_have-loop-arm
invariant-arms_have-loop-arm l =
    has_line (flat_map arm_lines l.arms) l.line ≡ has_line (flat_map arm_lines (drop l.arm-index l.arms)) l.line

abbrev pub invariant-body_has-loop-statement : goal.invariant-body_has-loop-statement
invariant-body_has-loop-statement l =
    has_line (body_lines l.all) l.line ≡ has_line (body_lines (drop l.statement-index l.all)) l.line
