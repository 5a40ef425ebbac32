use Rattle.std.proofs.Common.{refl}
use Rattle.dp_actions.specs.Run.{and_then}
use Rattle.dp_step.proofs.small.call_hand.Goals as goal

pub returns-in-Signal : goal.returns-in-Signal
unfolding and_then
returns-in-Signal c = λ setting depth k s. rw c.in-Signal.is refl

pub returns-in-Value : goal.returns-in-Value
returns-in-Value c = λ setting depth k s. rw c.in-Value.is refl

pub returns-in-Values : goal.returns-in-Values
returns-in-Values c = λ setting depth k s. rw c.in-Values.is refl
