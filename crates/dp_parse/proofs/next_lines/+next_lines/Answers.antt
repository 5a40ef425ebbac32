use Rattle.std.proofs.Common.{ap, sym, ◌∙◌}
use Rattle.dp_tree.specs.CodeLines.{lines_of}
use Rattle.dp_tree.specs.inner.Parts.{arm_lines}
use Rattle.dp_parse.specs.NextCode.{least_between, lesser}
use Rattle.dp_parse.proofs.LeastLines.{all_met, arm_parts, between_more, between_none, empty_lines, one_more}
use Rattle.dp_parse.proofs.next_lines.+next_lines.Goals as goal

pub body_next-loop-statement-preserved : goal.body_next-loop-statement-preserved
body_next-loop-statement-preserved t c =
    one_more c.args.from c.args.to lines_of c.args.all.now c.loop-statement.statement-index c.loop-statement.next
    c.statement-item.result c.statement_next.result c.lesser-next.result c.loop-statement-test.true c.statement-item.is
    c.loop-statement.invariant c.statement_next.ensures c.lesser-next.ensures

pub body_next-returns : goal.body_next-returns
body_next-returns t c =
    all_met c.args.from c.args.to lines_of c.args.all.now c.loop-statement.statement-index c.loop-statement.next
    c.loop-statement-test.false c.loop-statement.invariant

pub kind_next-returns-in-Empty : goal.kind_next-returns-in-Empty
kind_next-returns-in-Empty t c =
    sym (ap (least_between c.args.from c.args.to) (empty_lines c.args.kind.now c.args.first c.in-Empty.is)
    ∙ between_none c.args.from c.args.to)

pub arms_next-loop-arm-preserved : goal.arms_next-loop-arm-preserved
arms_next-loop-arm-preserved t c =
    one_more c.args.from c.args.to arm_lines c.args.arms.now c.loop-arm.arm-index c.loop-arm.next c.arm-item.result
    c.arm_next.result c.lesser-next.result c.loop-arm-test.true c.arm-item.is c.loop-arm.invariant c.arm_next.ensures
    c.lesser-next.ensures

pub arms_next-returns : goal.arms_next-returns
arms_next-returns t c =
    all_met c.args.from c.args.to arm_lines c.args.arms.now c.loop-arm.arm-index c.loop-arm.next c.loop-arm-test.false
    c.loop-arm.invariant

pub arm_next-returns : goal.arm_next-returns
arm_next-returns t c =
    let arm = c.args.arm.now in
    c.lesser.ensures
    ∙ (λ i. lesser (c.line_next.ensures i) (c.statement_next.ensures i))
    ∙ sym (ap (least_between c.args.from c.args.to) (arm_parts arm)
    ∙ between_more c.args.from c.args.to arm.line (lines_of arm.body))
