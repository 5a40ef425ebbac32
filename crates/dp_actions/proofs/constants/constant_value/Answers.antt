use Rattle.std.proofs.Common.{sym, ◌∙◌}
use Rattle.dp_state.specs.Constants.{constant}
use Rattle.dp_actions.proofs.AtOnceLaws.{ends, surely_done, surely_over}
use Rattle.dp_actions.proofs.ConstantLaws.{read_there}
use Rattle.dp_actions.proofs.constants.constant_value.Goals as goal

pub returns-in-Some-clause-run : goal.returns-in-Some-clause-run
returns-in-Some-clause-run c =
    read_there (constant c.args.name.now c.args.state.now) c.in-Some.value c.args.state.now
    (sym c.in_ok-value.ensures.ok ∙ c.in-Some.is)

pub returns-in-Some-clause-sure : goal.returns-in-Some-clause-sure
returns-in-Some-clause-sure c = rw (sym c.in_ok-value.ensures.ok ∙ c.in-Some.is) surely_done

pub returns-in-None-clause-run : goal.returns-in-None-clause-run
returns-in-None-clause-run c = rw (sym c.in_ok-value.ensures.ok ∙ c.in-None.is, c.fatal.ensures) ends

pub returns-in-None-clause-sure : goal.returns-in-None-clause-sure
returns-in-None-clause-sure c = rw (sym c.in_ok-value.ensures.ok ∙ c.in-None.is, c.fatal.ensures) surely_over
