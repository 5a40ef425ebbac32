use Rattle.dp_actions.proofs.AtOnceLaws.{breaks_off, exits, goes_on}
use Rattle.dp_actions.proofs.changes.combine.Goals as goal

pub returns-in_err-new : goal.returns-in_err-new
returns-in_err-new c = exits _ _ c.from_residual.ensures.1 (breaks_off _ (c.in_err-new.ensures))

pub returns : goal.returns
returns c = goes_on _ (c.in_ok-new.ensures) c.assign_place.ensures

pub returns-then-is_concat : goal.returns-then-is_concat
returns-then-is_concat c = rw (c.is_concat.ensures c.if-is_concat.true) c.grown.ensures
