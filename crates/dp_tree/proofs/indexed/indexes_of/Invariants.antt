use Rattle.std.proofs.Common.{take}
use Rattle.dp_tree.specs.inner.Indexes.{AreIndexed}
use Rattle.dp_tree.proofs.indexed.indexes_of.Given as goal

abbrev pub invariant-loop-file : goal.invariant-loop-file
invariant-loop-file l = AreIndexed (take l.file-index l.files) l.indexes.items
