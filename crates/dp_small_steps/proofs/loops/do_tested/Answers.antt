use Rattle.std.proofs.Common.{refl}
use Rattle.dp_actions.specs.Run.{and_then}
use Rattle.dp_small_steps.proofs.loops.do_tested.Goals as goal

pub returns-then-holds : goal.returns-then-holds
returns-then-holds c = λ setting k s. rw (c.if-holds.true, c.alone.ensures) refl

pub returns-else-holds : goal.returns-else-holds
unfolding and_then
returns-else-holds c = λ setting k s. rw (c.signal.ensures, c.if-holds.false) refl
