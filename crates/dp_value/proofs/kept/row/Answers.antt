use Rattle.std.proofs.Common.{sym}
use Rattle.dp_value.proofs.LeftLemmas.{row-before, row-behind}
use Rattle.dp_value.proofs.kept.row.Goals as goal

pub returns-then-at-start : goal.returns-then-at-start
returns-then-at-start c = sym (row-before c.args.start c.args.gone c.args.at c.if-at-start.true)

pub returns : goal.returns
returns c = sym (row-behind c.args.start c.args.gone c.args.at c.if-at-start.false)
