use Rattle.std.proofs.Common.{refl, sym, ◌∙◌}
use Rattle.dp_small_steps.proofs.parts.choose.Goals as goal

pub returns-then-truthy : goal.returns-then-truthy
returns-then-truthy c =
    λ setting k s. c.chosen.ensures setting k s
    ∙ rw (sym c.truthy.ensures ∙ c.if-truthy.true) refl

pub returns-else-truthy : goal.returns-else-truthy
returns-else-truthy c =
    λ setting k s. rw (c.alone.ensures, c.as_ref.ensures, sym c.truthy.ensures ∙ c.if-truthy.false) refl
