use Rattle.dp_actions.proofs.AtOnceLaws.{breaks_off, exits, goes_on}
use Rattle.dp_actions.proofs.Tails.{gives-answers}
use Rattle.dp_actions.proofs.changes.step_from.Goals as goal

pub returns-in_err-new : goal.returns-in_err-new
returns-in_err-new c =
    exits _ _ c.from_residual.ensures.1 (breaks_off _ (c.in_err-new.ensures _
    (gives-answers _ _ c.unary.ensures)))

pub returns : goal.returns
returns c =
    goes_on _ (c.in_ok-new.ensures _ (gives-answers _ _ c.unary.ensures)) c.write_step.ensures
