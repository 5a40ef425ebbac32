use Rattle.std.proofs.Common.{◌≡◌, length}
use Rattle.std.specs.Io.KnownBytes.{Keeps}
use Rattle.dp_adapters.proofs.transfers.read_some.Given as goal

-- a read that was interrupted took nothing
abbrev pub invariant-tries : goal.invariant-tries
invariant-tries g l =
    (length l.buf ≡ length l.initial.buf) × Keeps (g.R.Read.remaining l.initial.reader) (g.R.Read.remaining l.reader)
