use Rattle.dp_actions.proofs.Runs.{and_then-assoc}
use Rattle.dp_small_steps.proofs.AtOnce.{leads_as, leads_off}
use Rattle.dp_small_steps.proofs.ResumedParts.{compounds}
use Rattle.dp_small_steps.proofs.parts.compound.Goals as goal

pub returns-in-Ok : goal.returns-in-Ok
returns-in-Ok c = λ setting. record {
  by = λ k.
      rw c.as_ref.ensures
      (compounds setting k c.args.state.now c.args.op c.args.name.now c.args.indices c.args.right.now c.in-Ok.old
      (rw c.as_slice.ensures at c.in-Ok.ensures));
}

pub returns-in-Err : goal.returns-in-Err
returns-in-Err c = λ setting. leads_as _ _ _ _ (λ k. and_then-assoc _ _ _)
    (leads_off _ c.args.state.now c.in-Err.why _ (rw c.as_slice.ensures at c.in-Err.ensures))
