use Rattle.std.proofs.Common.{sym, refl, ◌∙◌}
use Rattle.dp_actions.proofs.operands.present.Goals as goal

pub returns-then-is_missing : goal.returns-then-is_missing
returns-then-is_missing c = rw (sym c.is_missing.ensures ∙ c.if-is_missing.true) refl

pub returns : goal.returns
returns c = rw (sym c.is_missing.ensures ∙ c.if-is_missing.false) refl
