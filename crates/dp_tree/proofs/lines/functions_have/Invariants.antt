use Rattle.std.proofs.Common.{◌≡◌, drop}
use Rattle.std.specs.List.{flat_map}
use Rattle.dp_tree.specs.declared.tree.Function.{Function}
use Rattle.dp_tree.specs.CodeLines.{body_lines, has_line}
use Rattle.dp_tree.proofs.lines.functions_have.Given as goal

abbrev pub invariant-loop-function : goal.invariant-loop-function
invariant-loop-function l =
    has_line (flat_map (λ (f : Function). body_lines f.body) l.functions) l.line ≡ has_line
    (flat_map (λ (f : Function). body_lines f.body) (drop l.function-index l.functions)) l.line
