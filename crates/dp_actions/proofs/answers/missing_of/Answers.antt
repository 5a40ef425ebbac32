use Rattle.std.proofs.Common.{subst}
use Rattle.dp_actions.specs.inner.Missing.{AnswersMissing}
use Rattle.dp_actions.proofs.Tails.{missing-err, missing-ok}
use Rattle.dp_actions.proofs.answers.missing_of.Goals as goal

pub returns-in-Ok : goal.returns-in-Ok
returns-in-Ok c =
    λ table h. missing-ok c.args.state.now table c.in-Ok.missing (subst (λ r. AnswersMissing r table) c.in-Ok.is h)

pub returns-in-Err : goal.returns-in-Err
returns-in-Err c =
    λ table h. rw (c.fault.ensures, c.from.ensures) (missing-err c.args.state.now table c.in-Err.why
    (subst (λ r. AnswersMissing r table) c.in-Err.is h))
