use Rattle.std.proofs.Common.{sym, ◌∙◌}
use Rattle.dp_actions.proofs.AtOnceLaws.{ends, surely_done, surely_over}
use Rattle.dp_actions.proofs.ConstantLaws.{defining-done}
use Rattle.dp_actions.proofs.constants.defining.Goals as goal

pub returns-then-not-is_given-clause-run : goal.returns-then-not-is_given-clause-run
returns-then-not-is_given-clause-run c = rw (sym c.is_given.ensures ∙ c.if-not-is_given.true, c.fatal.ensures) ends

pub returns-then-not-is_given-clause-sure : goal.returns-then-not-is_given-clause-sure
returns-then-not-is_given-clause-sure c =
    rw (sym c.is_given.ensures ∙ c.if-not-is_given.true, c.fatal.ensures) surely_over

pub returns-clause-run : goal.returns-clause-run
returns-clause-run c =
    defining-done c.args.name.now c.in_ok-name.name c.args.value.now c.in_ok-try_clone.field-0 c.in_ok-is_new.is_new
    c.args.state.now c.define.new.self c.in_ok-name.ensures c.in_ok-try_clone.ensures
    (sym c.is_given.ensures ∙ c.if-not-is_given.false) c.in_ok-is_new.ensures.new c.in_ok-is_new.ensures.ok

pub returns-clause-sure : goal.returns-clause-sure
returns-clause-sure c = rw (sym c.is_given.ensures ∙ c.if-not-is_given.false) surely_done
