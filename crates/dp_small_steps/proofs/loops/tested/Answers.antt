use Rattle.std.proofs.Common.{refl, sym}
use Rattle.dp_actions.specs.Run.{and_then}
use Rattle.dp_actions.proofs.Runs.{and_then-assoc}
use Rattle.dp_small_steps.proofs.loops.tested.Goals as goal

pub returns-then-holds : goal.returns-then-holds
returns-then-holds c = λ setting k s. rw (c.if-holds.true, c.as_ref.ensures) (sym (and_then-assoc _ _ _))

pub returns-else-holds : goal.returns-else-holds
unfolding and_then
returns-else-holds c = λ setting k s. rw (c.signal.ensures, c.if-holds.false) refl
