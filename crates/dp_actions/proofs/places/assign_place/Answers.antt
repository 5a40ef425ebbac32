use Rattle.dp_actions.proofs.places.assign_place.Goals as goal

pub returns : goal.returns
returns c = rw (c.as_slice.ensures.value, c.in_ok-keys.ensures) at c.assign_keyed.ensures
