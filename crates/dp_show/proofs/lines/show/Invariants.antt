use Rattle.std.proofs.Common.{◌≤◌, ℕ, List}
use Rattle.std.specs.Io.KnownBytes.{Consumes}
use Rattle.dp_wire.specs.Frames.{IsPartialPacket}
use Rattle.dp_show.specs.inner.Progress.{HasShown}
use Rattle.dp_show.proofs.lines.show.Given as goal

abbrev pub invariant-pieces : goal.invariant-pieces
invariant-pieces g l =
    (g.S.Source.faults l.fn.input ≤ g.S.Source.faults l.input) × (g.K.Sink.faults l.fn.out ≤ g.K.Sink.faults l.out)
    × IsPartialPacket l.packets.held
    × ((read : List ℕ) × Consumes (g.S.Source.left l.fn.input) (g.S.Source.left l.input) read
    × HasShown read l.packets (g.K.Sink.taken l.fn.out) (g.K.Sink.taken l.out))
