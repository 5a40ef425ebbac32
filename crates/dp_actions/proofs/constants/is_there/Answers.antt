use Rattle.std.proofs.Common.{sym, ◌∙◌}
use Rattle.dp_actions.proofs.AtOnceLaws.{gives}
use Rattle.dp_actions.proofs.ConstantLaws.{defined-done}
use Rattle.dp_actions.proofs.constants.is_there.Goals as goal

pub returns-then-is_literal-clause-run : goal.returns-then-is_literal-clause-run
returns-then-is_literal-clause-run c = rw (sym c.is_literal.ensures ∙ c.if-is_literal.true) gives

pub returns-clause-run : goal.returns-clause-run
returns-clause-run c =
    defined-done c.args.name.now c.in_ok-name.name c.has_constant.result c.args.state.now c.in_ok-name.ensures
    (sym c.is_literal.ensures ∙ c.if-is_literal.false) c.has_constant.ensures
