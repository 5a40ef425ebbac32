use Rattle.std.proofs.Common.{refl}
use Rattle.dp_actions.specs.Run.{and_then}
use Rattle.dp_small_steps.proofs.parts.chosen.Goals as goal

pub returns-in-None : goal.returns-in-None
unfolding and_then
returns-in-None c = λ setting k s. rw (c.give.ensures, c.in-None.is) refl

pub returns-in-Some : goal.returns-in-Some
returns-in-Some c = λ setting k s. rw (c.alone.ensures, c.as_ref.ensures, c.in-Some.is) refl
