use Rattle.std.proofs.Common.{refl, sym}
use Rattle.dp_actions.specs.Run.{and_then}
use Rattle.dp_actions.proofs.Runs.{and_then-assoc}
use Rattle.dp_small_steps.proofs.statements.exit.Goals as goal

pub returns-in-None : goal.returns-in-None
unfolding and_then
returns-in-None c = λ setting k s. rw (c.in-None.is, c.alone.ensures) refl

pub returns-in-Some : goal.returns-in-Some
returns-in-Some c = λ setting k s. rw (c.in-Some.is, c.evaluated.ensures) (sym (and_then-assoc _ _ _))
