use Rattle.std.proofs.Common.{refl, sym, ◌∙◌}
use Rattle.dp_small_steps.proofs.Begins as begins
use Rattle.dp_small_steps.proofs.expressions.begin_change.Goals as goal

pub returns-in-Step : goal.returns-in-Step
returns-in-Step c =
    λ setting k s. rw c.in-Step.is (c.values_first.ensures setting k s ∙ sym (begins.begins-Step setting k s _ _ _))

pub returns-in-Assign : goal.returns-in-Assign
returns-in-Assign c =
    λ setting k s. rw c.in-Assign.is (c.begin_assign.ensures setting k s
    ∙ sym (begins.begins-Assign setting k s _ _))

pub returns-in-Push : goal.returns-in-Push
returns-in-Push c =
    λ setting k s. rw c.in-Push.is (c.begin_assign-in-Push.ensures setting k s
    ∙ sym (begins.begins-Push setting k s _ _))

pub returns-in-Compound : goal.returns-in-Compound
returns-in-Compound c =
    λ setting k s. rw c.in-Compound.is (c.values_first-in-Compound.ensures setting k s
    ∙ sym (begins.begins-Compound setting k s _ _ _))

pub returns-in-CoalesceAssign : goal.returns-in-CoalesceAssign
returns-in-CoalesceAssign c =
    λ setting k s. rw c.in-CoalesceAssign.is (c.values_first-in-CoalesceAssign.ensures setting k s
    ∙ sym (begins.begins-CoalesceAssign setting k s _ _))

pub returns-in_default : goal.returns-in_default
returns-in_default c = λ setting k s. rw c.alone.ensures refl
