use Rattle.dp_value.proofs.kept.Kept.place.Goals as goal

pub rising_place-requires : goal.rising_place-requires
rising_place-requires c = rw c.as_slice.ensures.value (rw c.in-Rising.is at c.requires)

pub returns-in-Rising : goal.returns-in-Rising
returns-in-Rising c = rw (c.in-Rising.is, ← c.as_slice.ensures.value) c.rising_place.ensures

pub indexed_place-requires : goal.indexed_place-requires
indexed_place-requires c = rw c.in-Indexed.is at c.requires

pub returns-in-Indexed : goal.returns-in-Indexed
returns-in-Indexed c = rw c.in-Indexed.is c.indexed_place.ensures
