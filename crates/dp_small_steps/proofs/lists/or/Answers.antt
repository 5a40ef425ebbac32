use Rattle.std.proofs.Common.{refl}
use Rattle.dp_small_steps.proofs.lists.or.Goals as goal

pub returns-then-left : goal.returns-then-left
returns-then-left c = λ setting k s. rw (c.if-left.true, c.alone.ensures) refl

pub returns-else-left : goal.returns-else-left
returns-else-left c = λ setting k s. rw c.if-left.false refl
