use Rattle.dp_actions.proofs.AtOnceLaws.{breaks_off, exits, goes_on}
use Rattle.dp_actions.proofs.GivenUp.{step-given_up}
use Rattle.dp_actions.proofs.Tails.{gives-answers}
use Rattle.dp_actions.proofs.changes.put_step.Goals as goal

pub returns-in_err-old : goal.returns-in_err-old
returns-in_err-old c = λ order. exits _ _ c.from_residual.ensures.1 (breaks_off _ (breaks_off _ c.in_err-old.ensures))

pub returns-in_err-new : goal.returns-in_err-new
returns-in_err-new c = λ order. exits _ _ c.from_residual-in_err-new.ensures.1 (rw step-given_up (goes_on _
    c.in_ok-old.ensures (breaks_off _ (c.in_err-new.ensures _ (gives-answers _ _ c.unary.ensures)))))

pub returns : goal.returns
returns c = λ order. rw step-given_up (goes_on _ c.in_ok-old.ensures (goes_on _ (c.in_ok-new.ensures _
    (gives-answers _ _ c.unary.ensures)) c.put_place.ensures))
