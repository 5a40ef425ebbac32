use Rattle.std.proofs.Common.{refl, sym, ◌∙◌}
use Rattle.dp_small_steps.proofs.AtOnce.{leads_off, then_done}
use Rattle.dp_small_steps.proofs.next.given.Goals as goal

pub returns-in-Ok : goal.returns-in-Ok
returns-in-Ok c = λ setting run t h. record {
  by = λ k. then_done run c.in-Ok.value t _ (rw (sym c.in-Ok.is) h) ∙ rw c.give.ensures refl;
}

pub returns-in-Err : goal.returns-in-Err
returns-in-Err c = λ setting run t h. leads_off run t c.in-Err.why _ (rw (sym c.in-Err.is) h)
