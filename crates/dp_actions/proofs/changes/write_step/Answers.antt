use Rattle.std.proofs.Common.{sym}
use Rattle.dp_actions.proofs.AtOnceLaws.{breaks_off, exits, gives, goes_on}
use Rattle.dp_actions.proofs.Tails.{assign-is}
use Rattle.dp_actions.proofs.changes.write_step.Goals as goal

pub returns-in_err-new : goal.returns-in_err-new
returns-in_err-new c = exits _ _ c.from_residual.ensures.1 (breaks_off _ c.in_err-new.ensures)

pub returns : goal.returns
returns c = let e = c.in_ok-new.ensures in goes_on _ e (rw (c.ordered.ensures, sym (assign-is _ _ _ _ _ e)) gives)
