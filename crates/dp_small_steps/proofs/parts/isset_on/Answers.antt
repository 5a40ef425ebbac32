use Rattle.std.proofs.Common.{refl}
use Rattle.dp_small_steps.proofs.parts.isset_on.Goals as goal

pub returns-then-absent : goal.returns-then-absent
returns-then-absent c = λ setting k s. rw (c.give.ensures, c.if-absent.true) refl

pub returns-else-absent : goal.returns-else-absent
returns-else-absent c = λ setting k s. rw (c.alone.ensures, c.if-absent.false) refl
