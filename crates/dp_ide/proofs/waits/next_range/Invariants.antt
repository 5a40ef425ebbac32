use Rattle.std.proofs.Common.{◌≤◌, ℕ, List}
use Rattle.std.specs.Io.KnownBytes.{Consumes}
use Rattle.dp_ide.specs.inner.Progress.{ComesForOne, HoldsMore}
use Rattle.dp_ide.proofs.waits.next_range.Given as goal

abbrev pub invariant-pieces : goal.invariant-pieces
invariant-pieces g l =
    (g.S.Source.faults l.fn.source ≤ g.S.Source.faults l.source)
    × ((piece : List ℕ) × Consumes (g.S.Source.left l.fn.source) (g.S.Source.left l.source) piece
    × HoldsMore l.fn.packets l.packets piece × ComesForOne l.fn.packets.held piece)
