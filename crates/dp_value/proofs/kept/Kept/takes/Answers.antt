use Rattle.dp_value.proofs.kept.Kept.takes.Goals as goal

pub goes_on-requires : goal.goes_on-requires
goes_on-requires c = rw c.as_slice.ensures.value (rw c.in-Rising.is at c.requires)
