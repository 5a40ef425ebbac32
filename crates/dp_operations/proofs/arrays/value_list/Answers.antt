use Rattle.dp_value.specs.inner.Codes.{pairs_of-entries_of}
use Rattle.dp_operations.proofs.arrays.value_list.Goals as goal

pub returns-in-Array : goal.returns-in-Array
returns-in-Array c =
    rw (← c.in-Some.ensures, c.in-Array.is, pairs_of-entries_of c.in-Array.array.pairs) c.list_of_values.ensures
