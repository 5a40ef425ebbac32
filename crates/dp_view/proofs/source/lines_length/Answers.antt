use Rattle.std.proofs.Common.{◌+◌, ap, arith, drop}
use Rattle.dp_view.specs.inner.Lines.{lines_length}
use Rattle.dp_view.proofs.Lines.{turn_feed, turn_other}
use Rattle.dp_view.proofs.source.lines_length.Goals as goal
use Rattle.dp_view.proofs.source.lines_length.Goals.{then-text-at-eq10, else-text-at-eq10}

pub loop-at-preserved : goal.loop-at-preserved
loop-at-preserved c =
    elim c.if-text-at-eq10.branch [
      | then-text-at-eq10 w ↦
          let turned = turn_feed c.loop-at.left c.loop-at.at c.args.text.now c.loop-at-test.true c.if-left-gt0.true
          w.if-text-at-eq10.true in
          let same = ap (λ n. lines_length n (drop (c.loop-at.at + 1) c.args.text.now)) w.left-is in
          (omega (arith, turned, same, c.loop-at.invariant.0), omega arith)
      | else-text-at-eq10 w ↦
          let turned = turn_other c.loop-at.left c.loop-at.at c.args.text.now c.loop-at-test.true c.if-left-gt0.true
          w.if-text-at-eq10.false in
          let same = ap (λ n. lines_length n (drop (c.loop-at.at + 1) c.args.text.now)) w.left-is in
          (omega (arith, turned, same, c.loop-at.invariant.0), omega arith)
    ]
