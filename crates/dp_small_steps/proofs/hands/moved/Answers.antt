use Rattle.dp_small_steps.proofs.MomentSteps.{goes_off, goes_on}
use Rattle.dp_small_steps.proofs.hands.moved.Goals as goal

pub returns-in-Ok : goal.returns-in-Ok
returns-in-Ok c = λ setting part t h.
    goes_on setting part c.in-Ok.next _ t c.unplaced.ensures (rw c.in-Ok.is at h)

pub returns-in-Err : goal.returns-in-Err
returns-in-Err c = λ setting part t h. goes_off setting part c.in-Err.why t (rw c.in-Err.is at h)
