use Rattle.dp_actions.proofs.Tails.{settles}
use Rattle.dp_actions.proofs.places.unset_place.Goals as goal

pub returns : goal.returns
returns c =
    rw c.settled.ensures (settles _ _ _ _ (rw (c.as_slice.ensures.value, c.in_ok-keys.ensures) at
    c.unset-step.ensures.ok)
    (rw (c.as_slice.ensures.value, c.in_ok-keys.ensures) at c.unset-step.ensures.refused) c.unset-step.ensures.err)
