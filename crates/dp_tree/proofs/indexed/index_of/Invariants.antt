use Rattle.std.proofs.Common.{take}
use Rattle.dp_tree.specs.inner.Indexes.{IsIndex}
use Rattle.dp_tree.proofs.indexed.index_of.Given as goal

abbrev pub invariant-loop-number : goal.invariant-loop-number
invariant-loop-number l = IsIndex (take l.number l.functions) l.firsts.entries
