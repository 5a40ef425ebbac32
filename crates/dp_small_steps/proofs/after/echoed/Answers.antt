use Rattle.std.proofs.Common.{refl, ◌∙◌}
use Rattle.dp_actions.proofs.Runs.{and_then-assoc}
use Rattle.dp_small_steps.proofs.AtOnce.{leads_as, leads_off, then_done}
use Rattle.dp_small_steps.proofs.after.echoed.Goals as goal

pub returns-in-Ok : goal.returns-in-Ok
returns-in-Ok c = λ setting. record {
  by = λ k. and_then-assoc _ _ _
      ∙ then_done _ (tt {0}) c.print_value-done.new.state _ c.in-Ok.ensures ∙ rw c.alone.ensures refl;
}

pub returns-in-Err : goal.returns-in-Err
returns-in-Err c =
    λ setting. leads_as _ _ _ _ (λ k. and_then-assoc _ _ _)
    (leads_off _ c.print_value-done.new.state c.in-Err.why _ c.in-Err.ensures)
