use Rattle.std.proofs.Common.{◌≡◌, ◌-◌, length}
use Rattle.dp_view.specs.NameReader.{index_at}
use Rattle.dp_view.specs.inner.Items.{behind_items}
use Rattle.dp_view.proofs.spelling.indices.Given as goal

abbrev pub invariant-loop : goal.invariant-loop
invariant-loop l =
    behind_items index_at (length l.bytes - l.counter) l.rest ≡ behind_items index_at (length l.bytes) l.bytes
