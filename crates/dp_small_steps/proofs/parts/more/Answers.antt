use Rattle.dp_small_steps.proofs.ResumedParts.{more}
use Rattle.dp_small_steps.proofs.parts.more.Goals as goal

pub returns-in-Ok : goal.returns-in-Ok
returns-in-Ok c = λ setting s. record {
  by = λ k. rw (c.alone.ensures, c.in-Ok.ensures) (more setting _ _ _ s k);
}

pub returns-in-Err : goal.returns-in-Err
returns-in-Err c = λ setting s. record { by = tt }
