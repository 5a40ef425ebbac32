use Rattle.dp_actions.proofs.Tails.{settles}
use Rattle.dp_actions.proofs.places.write_keyed.Goals as goal

pub returns : goal.returns
returns c =
    rw c.settled.ensures (settles _ _ _ _ c.assign-step.ensures.ok c.assign-step.ensures.refused
    c.assign-step.ensures.err)
