use Rattle.std.proofs.Common.{◌≡◌, ◌-◌, ◌++◌, length}
use Rattle.dp_view.specs.NameReader.{index_at}
use Rattle.dp_view.specs.inner.Items.{items_taken, keys_taken}
use Rattle.dp_view.proofs.name_reader.keys.Given as goal

abbrev pub invariant-loop : goal.invariant-loop
invariant-loop l = l.keys.items ++ items_taken index_at (length l.bytes - l.counter) l.rest ≡ keys_taken l.bytes
