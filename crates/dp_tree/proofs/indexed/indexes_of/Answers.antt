use Rattle.std.proofs.Common.{List, subst}
use Rattle.dp_tree.specs.declared.tree.Function.{Function}
use Rattle.dp_tree.specs.inner.Indexes.{IsIndex}
use Rattle.dp_tree.proofs.FunctionIndex.{indexed_at}
use Rattle.dp_tree.proofs.indexed.indexes_of.Goals as goal

pub loop-file-preserved : goal.loop-file-preserved
loop-file-preserved c =
    indexed_at c.args.files.now c.loop-file.file-index c.file-item.result c.loop-file.indexes.items
    c.push.new.self.items
    c.in_ok-index_of.field-0 c.loop-file-test.true c.file-item.is c.loop-file.invariant
    (subst (λ (fs : List Function). IsIndex fs c.in_ok-index_of.field-0.firsts.entries) c.as_slice.ensures
    c.in_ok-index_of.ensures) c.in_ok-push.ensures.items
