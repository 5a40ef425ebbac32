use Rattle.std.proofs.Common.{◌≡◌, ◌+◌, ◌-◌, ◌≤◌, length}
use Rattle.std.specs.Io.KnownBytes.{Consumes}
use Rattle.dp_adapters.proofs.transfers.read_front.Given as goal

-- the bytes so far are what the reader gave
abbrev pub invariant-pieces : goal.invariant-pieces
invariant-pieces g l =
    Consumes (g.R.Read.remaining l.initial.reader) (g.R.Read.remaining l.reader) l.bytes.items
    × (length l.bytes.items ≤ l.limit + 1)
    × (length l.buf ≡ 4096)

abbrev pub decreases-pieces : goal.decreases-pieces
decreases-pieces g l = (l.limit + 1) - length l.bytes.items
