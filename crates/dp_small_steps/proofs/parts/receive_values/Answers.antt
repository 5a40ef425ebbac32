use Rattle.dp_actions.proofs.Runs.{and_then-assoc}
use Rattle.dp_small_steps.proofs.parts.receive_values.Goals as goal

pub returns-in-Native : goal.returns-in-Native
returns-in-Native c = λ setting. rw c.in-Native.is (c.call_native.ensures setting)

pub returns-in-Assign : goal.returns-in-Assign
returns-in-Assign c = λ setting. record { by = λ k. rw (c.in-Assign.is, c.as_ref.ensures) (and_then-assoc _ _ _) }

pub returns-in-Compound : goal.returns-in-Compound
returns-in-Compound c = λ setting. rw c.in-Compound.is (c.compound.ensures setting)

pub returns-in-CoalesceAssign : goal.returns-in-CoalesceAssign
returns-in-CoalesceAssign c = λ setting. rw c.in-CoalesceAssign.is (c.coalesce_assign.ensures setting)

pub returns-in-Step : goal.returns-in-Step
returns-in-Step c = λ setting. rw c.in-Step.is (c.step.ensures setting)

pub returns-in-Isset : goal.returns-in-Isset
returns-in-Isset c = λ setting. rw c.in-Isset.is (c.isset_place.ensures setting)
