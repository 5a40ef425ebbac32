use Rattle.std.proofs.Common.{subst}
use Rattle.dp_operations.specs.Answers.{Answers}
use Rattle.dp_actions.proofs.Tails.{value-ok}
use Rattle.dp_actions.proofs.answers.value_of.Goals as goal

pub returns-in-Ok : goal.returns-in-Ok
returns-in-Ok c =
    λ table h. value-ok c.args.state.now table c.in-Ok.value
    (subst (λ r. Answers r table) c.in-Ok.is h)
