use Rattle.std.proofs.Common.{◌≡◌, ◌-◌, length}
use Rattle.dp_command.specs.inner.Parts.{items_at, byte_at}
use Rattle.dp_command.proofs.Loop.{with_front}
use Rattle.dp_command.proofs.values.inner.Given as goal

abbrev pub invariant-loop : goal.invariant-loop
invariant-loop l =
    with_front l.value.items (items_at byte_at (length l.bytes - l.counter) l.rest) ≡ items_at byte_at
    (length l.bytes) l.bytes
