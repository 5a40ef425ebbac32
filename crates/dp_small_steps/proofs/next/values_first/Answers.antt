use Rattle.std.proofs.Common.{refl}
use Rattle.dp_small_steps.proofs.next.values_first.Goals as goal

pub returns : goal.returns
returns c = λ setting k s. rw (c.of.ensures, c.new.ensures.items) refl
