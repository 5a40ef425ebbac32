use Rattle.std.proofs.Common.{refl, sym, ap}
use Rattle.dp_actions.specs.Run.{and_then}
use Rattle.dp_small_steps.specs.Parts.{to_signal}
use Rattle.dp_small_steps.proofs.TurnLaws.{goes-off}
use Rattle.dp_small_steps.proofs.loops.receive_signal.Goals as goal

pub returns-in-Next : goal.returns-in-Next
returns-in-Next c = λ setting k s. rw (c.in-Rest.is, c.in-Next.is, c.unplaced.ensures, c.alone.ensures) refl

pub returns-in_default : goal.returns-in_default
unfolding and_then
returns-in_default c = λ setting k s.
    rw (c.in-Rest.is, c.unplaced-in_default.ensures, c.signal.ensures) (sym (ap (λ r. and_then r (to_signal k))
    (goes-off _ _ s c.in_default.not-Next)))

pub returns-in-Body : goal.returns-in-Body
returns-in-Body c = λ setting k s. rw c.in-Body.is (c.turn_on.ensures setting k s)

pub returns-in-DoBody : goal.returns-in-DoBody
returns-in-DoBody c = λ setting k s. rw c.in-DoBody.is (c.do_on.ensures setting k s)

pub returns-in-EachBody : goal.returns-in-EachBody
returns-in-EachBody c = λ setting k s. rw c.in-EachBody.is (c.each_on.ensures setting k s)
