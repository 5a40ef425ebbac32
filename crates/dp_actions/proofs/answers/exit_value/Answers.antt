use Rattle.std.proofs.Common.{sym, ◌∙◌}
use Rattle.dp_actions.proofs.AtOnceLaws.{breaks_off, ends, goes_on}
use Rattle.dp_actions.proofs.Tails.{step-err, step-ok}
use Rattle.dp_actions.proofs.answers.exit_value.Goals as goal

pub returns-in-Some : goal.returns-in-Some
returns-in-Some c = rw (c.in-Int.is, sym c.status.ensures ∙ c.in-Some.is) ends

pub returns-in-None : goal.returns-in-None
returns-in-None c = rw (c.in-Int.is, sym c.status.ensures ∙ c.in-None.is, c.fatal.ensures) ends

pub returns-in-Ok : goal.returns-in-Ok
returns-in-Ok c = rw c.in-Text.is (goes_on _ (step-ok _ _ _ (rw c.as_slice.ensures at c.in-Ok.ensures.ok)) ends)

pub returns-in-Err : goal.returns-in-Err
returns-in-Err c =
    rw (c.in-Text.is, c.fault.ensures, c.in-Err.ensures.err) (breaks_off _
    (step-err _ _ _ (rw c.as_slice.ensures at c.in-Err.ensures.refused)))
