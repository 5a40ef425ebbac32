use Rattle.std.proofs.Common.{◌∙◌}
use Rattle.std.proofs.lemmas.Result.{IfOk-weaker}
use Rattle.dp_meaning.proofs.AnswerLaws.{write-answers}
use Rattle.dp_meaning.proofs.write_answers.keyed_in.Goals as goal

pub returns : goal.returns
returns c =
    IfOk-weaker c.try_write-answer.result _ _ (λ answer is. (rw c.in_ok-copy.ensures at is) ∙ write-answers _ _)
    c.try_write-answer.ensures
