use Rattle.std.proofs.Common.{Some, refl, sym, ap, ◌∙◌}
use Rattle.dp_step.proofs.machine.Machine.value_of.Goals as goal

pub returns-in-Err : goal.returns-in-Err
returns-in-Err c = rw c.failed.ensures.memory c.failed.ensures.failed

pub returns-in-None : goal.returns-in-None
returns-in-None c = (rw c.in-None.is at c.in-Ok.ensures, refl)

pub returns-in-Some : goal.returns-in-Some
returns-in-Some c =
    (rw c.in-Some.is at c.in-Ok.ensures ∙ ap (λ s. Some (c.in-Some.value, s)) (sym c.put_state.ensures), refl)
