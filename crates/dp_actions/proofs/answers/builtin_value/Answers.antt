use Rattle.std.proofs.Common.{subst}
use Rattle.dp_operations.specs.Builtins.{CallAnswers}
use Rattle.dp_actions.proofs.Tails.{builtin-ok}
use Rattle.dp_actions.proofs.answers.builtin_value.Goals as goal

pub returns-in-Ok : goal.returns-in-Ok
returns-in-Ok c =
    λ table h. builtin-ok c.args.state.now table c.in-Ok.value
    (subst (λ r. CallAnswers r table) c.in-Ok.is h)
