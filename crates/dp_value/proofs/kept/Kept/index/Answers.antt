use Rattle.dp_value.proofs.RisingLemmas.{rising-distinct}
use Rattle.dp_value.proofs.kept.Kept.index.Goals as goal

pub set_of-requires : goal.set_of-requires
set_of-requires c =
    rw c.as_slice.ensures.value (rising-distinct c.in-Rising.keys.items (rw c.in-Rising.is at c.requires))
