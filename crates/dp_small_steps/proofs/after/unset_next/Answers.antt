use Rattle.std.proofs.Common.{refl, ◌∙◌}
use Rattle.dp_small_steps.proofs.AtOnce.{leads_off, then_done}
use Rattle.dp_small_steps.proofs.after.unset_next.Goals as goal

pub returns-in-Ok : goal.returns-in-Ok
returns-in-Ok c = λ setting. record {
  by = λ k. then_done _ (tt {0}) c.unset_place-done.new.state _ (rw c.as_slice.ensures at c.in-Ok.ensures)
      ∙ rw c.alone.ensures refl;
}

pub returns-in-Err : goal.returns-in-Err
returns-in-Err c =
    λ setting. leads_off _ c.unset_place-done.new.state c.in-Err.why _
    (rw c.as_slice.ensures at c.in-Err.ensures)
