use Rattle.std.proofs.Common.{sym, ◌∙◌}
use Rattle.dp_small_steps.proofs.AtOnce.{leads_off, then_done}
use Rattle.dp_small_steps.proofs.parts.isset_place.Goals as goal

pub returns-in-Ok : goal.returns-in-Ok
returns-in-Ok c = λ setting. record {
  by = λ k. then_done _ c.in-Ok.absent c.args.state.now _ (rw c.as_slice.ensures at c.in-Ok.ensures)
      ∙ sym (c.isset_on.ensures setting k c.args.state.now);
}

pub returns-in-Err : goal.returns-in-Err
returns-in-Err c =
    λ setting. leads_off _ c.args.state.now c.in-Err.why _ (rw c.as_slice.ensures at c.in-Err.ensures)
