use Rattle.dp_actions.proofs.AtOnceLaws.{gives, then_err, then_ok}
use Rattle.dp_actions.proofs.after.then_truth.Goals as goal

pub returns-in_err-value : goal.returns-in_err-value
returns-in_err-value c = λ s. then_err c.in_err-value.was c.from_residual.ensures.1

pub returns : goal.returns
returns c = λ s. then_ok c.in_ok-value.was (rw c.truthy.ensures gives)
