use Rattle.dp_actions.proofs.Tails.{settles}
use Rattle.dp_actions.proofs.frames.enter_call.Goals as goal

pub returns : goal.returns
returns c =
    rw c.settled.ensures (settles _ _ _ _ c.call-step.ensures.ok c.call-step.ensures.refused c.call-step.ensures.err)
