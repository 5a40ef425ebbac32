use Rattle.std.proofs.Common.{List, ap, ◌∙◌}
use Rattle.dp_tree.specs.declared.tree.Function.{Function}
use Rattle.dp_tree.specs.declared.tree.Statement.{Statement}
use Rattle.dp_tree.specs.CodeLines.{body_lines}
use Rattle.dp_parse.specs.NextCode.{least_between}
use Rattle.dp_parse.proofs.LeastLines.{all_met, one_more}
use Rattle.dp_parse.proofs.next_lines.functions_next.Goals as goal

pub loop-function-preserved : goal.loop-function-preserved
loop-function-preserved c =
    one_more c.args.from c.args.to (λ (f : Function). body_lines f.body) c.args.functions.now
    c.loop-function.function-index c.loop-function.next c.function-item.result c.body_next.result c.lesser-next.result
    c.loop-function-test.true c.function-item.is c.loop-function.invariant
    (c.body_next.ensures
    ∙ ap (λ (all : List Statement). least_between c.args.from c.args.to (body_lines all)) c.as_slice.ensures)
    c.lesser-next.ensures

pub returns : goal.returns
returns c =
    all_met c.args.from c.args.to (λ (f : Function). body_lines f.body) c.args.functions.now
    c.loop-function.function-index c.loop-function.next c.loop-function-test.false c.loop-function.invariant
