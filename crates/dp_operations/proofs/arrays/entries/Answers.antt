use Rattle.std.proofs.Common.{arith}
use Rattle.std.proofs.lemmas.Int.{ints}
use Rattle.dp_operations.proofs.ListLemmas.{length-le-weight}
use Rattle.dp_operations.proofs.arrays.entries.Goals as goal

pub overflow_cast-result : goal.overflow_cast-result
overflow_cast-result c =
    omega (arith, ints, c.len.ensures.len, c.len.ensures.table.light, length-le-weight c.args.array.now.pairs)

pub returns : goal.returns
returns c = omega (arith, ints, c.len.ensures.len, c.len.ensures.table.light, length-le-weight c.args.array.now.pairs)
