use Rattle.dp_actions.proofs.AtOnceLaws.{breaks_off, exits, goes_on}
use Rattle.dp_actions.proofs.changes.step_place.Goals as goal

pub returns-in_err-old : goal.returns-in_err-old
returns-in_err-old c = exits _ _ c.from_residual.ensures.1 (breaks_off _ c.in_err-old.ensures)

pub returns : goal.returns
returns c = goes_on _ c.in_ok-old.ensures c.step_from.ensures
