use Rattle.std.proofs.Common.{refl}
use Rattle.dp_small_steps.proofs.lists.and.Goals as goal

pub returns-then-left : goal.returns-then-left
returns-then-left c = λ setting k s. rw c.if-left.true refl

pub returns-else-left : goal.returns-else-left
returns-else-left c = λ setting k s. rw (c.if-left.false, c.alone.ensures) refl
