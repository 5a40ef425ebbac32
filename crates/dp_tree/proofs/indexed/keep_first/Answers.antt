use Rattle.std.proofs.Common.{sym, ◌∙◌}
use Rattle.dp_tree.proofs.FunctionIndex.{as_first}
use Rattle.dp_tree.proofs.indexed.keep_first.Goals as goal

pub returns : goal.returns
returns c =
    c.in_ok-insert.ensures.entries ∙ as_first c.args.firsts.now.entries c.args.lower c.args.number
    (sym c.has.ensures ∙ c.if-has.false)
