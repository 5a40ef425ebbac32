use Rattle.std.proofs.Common.{sym, refl, ◌∙◌}
use Rattle.dp_actions.proofs.operands.kept.Goals as goal

pub returns-then-truthy : goal.returns-then-truthy
returns-then-truthy c = rw (sym c.truthy.ensures ∙ c.if-truthy.true) refl

pub returns : goal.returns
returns c = rw (sym c.truthy.ensures ∙ c.if-truthy.false) refl
