use Rattle.dp_actions.proofs.Tails.{settles}
use Rattle.dp_actions.proofs.frames.enter_file.Goals as goal

pub returns : goal.returns
returns c =
    rw c.settled.ensures (settles _ _ _ _ c.include-step.ensures.ok c.include-step.ensures.refused
    c.include-step.ensures.err)
