use Rattle.std.proofs.Common.{refl, ◌∙◌}
use Rattle.dp_small_steps.proofs.AtOnce.{leads_off, then_done}
use Rattle.dp_small_steps.proofs.after.exit_with.Goals as goal

pub returns-in-Ok : goal.returns-in-Ok
returns-in-Ok c = λ setting. record {
  by = λ k. then_done _ c.in-Ok.given c.exit_value-done.new.state _ c.in-Ok.ensures
      ∙ rw c.signal.ensures refl;
}

pub returns-in-Err : goal.returns-in-Err
returns-in-Err c =
    λ setting. leads_off _ c.exit_value-done.new.state c.in-Err.why _ c.in-Err.ensures
