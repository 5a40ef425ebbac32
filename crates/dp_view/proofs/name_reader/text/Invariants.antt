use Rattle.std.proofs.Common.{◌≡◌, ◌-◌, ◌++◌, length}
use Rattle.dp_view.specs.NameReader.{byte_at}
use Rattle.dp_view.specs.inner.Items.{items_taken, text_taken}
use Rattle.dp_view.proofs.name_reader.text.Given as goal

abbrev pub invariant-loop : goal.invariant-loop
invariant-loop l =
    l.text.items ++ items_taken (byte_at l.quote) (length l.bytes - l.counter) l.rest ≡ text_taken l.quote l.bytes
