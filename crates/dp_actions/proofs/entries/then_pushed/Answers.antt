use Rattle.dp_actions.proofs.AtOnceLaws.{then_err, then_ok}
use Rattle.dp_actions.proofs.entries.then_pushed.Goals as goal

pub returns-in_err-value : goal.returns-in_err-value
returns-in_err-value c = then_err c.in_err-value.was c.from_residual.ensures.1

pub returns : goal.returns
returns c = then_ok c.in_ok-value.was c.pushed.ensures
