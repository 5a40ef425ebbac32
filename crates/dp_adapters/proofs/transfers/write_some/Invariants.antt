use Rattle.std.specs.Io.KnownBytes.{Keeps}
use Rattle.dp_adapters.proofs.transfers.write_some.Given as goal

-- a write that was interrupted took nothing
abbrev pub invariant-tries : goal.invariant-tries
invariant-tries g l = Keeps (g.W.Write.contents l.initial.writer) (g.W.Write.contents l.writer)
