use Rattle.std.proofs.Common.{refl, sym, ◌∙◌}
use Rattle.dp_small_steps.proofs.parts.coalesce.Goals as goal

pub returns-then-is_missing : goal.returns-then-is_missing
returns-then-is_missing c =
    λ setting k s. rw (c.alone.ensures, c.as_ref.ensures, sym c.is_missing.ensures ∙ c.if-is_missing.true) refl

pub returns-else-is_missing : goal.returns-else-is_missing
returns-else-is_missing c =
    λ setting k s. rw (c.give.ensures, sym c.is_missing.ensures ∙ c.if-is_missing.false) refl
