use Rattle.dp_actions.proofs.AtOnceLaws.{then_err, then_ok}
use Rattle.dp_actions.proofs.after.then_put_step.Goals as goal

pub returns-in_err-indices : goal.returns-in_err-indices
returns-in_err-indices c = λ order. then_err c.in_err-indices.was c.from_residual.ensures.1

pub returns : goal.returns
returns c = λ order. then_ok c.in_ok-indices.was ((rw c.as_slice.ensures at c.put_step.ensures) order)
