use Rattle.std.proofs.Common.{◌≡◌, drop}
use Rattle.std.specs.List.{flat_map}
use Rattle.dp_tree.specs.declared.tree.Function.{Function}
use Rattle.dp_tree.specs.CodeLines.{body_lines}
use Rattle.dp_parse.specs.NextCode.{least_between, lesser}
use Rattle.dp_parse.proofs.next_lines.functions_next.Given as goal

abbrev pub invariant-loop-function : goal.invariant-loop-function
invariant-loop-function l =
    least_between l.from l.to (flat_map (λ (f : Function). body_lines f.body) l.functions) ≡ lesser l.next
    (least_between l.from l.to (flat_map (λ (f : Function). body_lines f.body) (drop l.function-index l.functions)))
