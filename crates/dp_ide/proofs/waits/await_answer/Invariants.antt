use Rattle.std.proofs.Common.{◌≤◌, ℕ, List}
use Rattle.std.specs.Io.KnownBytes.{Consumes}
use Rattle.dp_ide.specs.inner.Progress.{PassesOver}
use Rattle.dp_ide.proofs.waits.await_answer.Given as goal

abbrev pub invariant-packets : goal.invariant-packets
invariant-packets g l =
    (g.S.Source.faults l.fn.source ≤ g.S.Source.faults l.source)
    × ((piece : List ℕ) × Consumes (g.S.Source.left l.fn.source) (g.S.Source.left l.source) piece
    × PassesOver l.id l.fn.packets l.packets l.fn.heard l.heard piece)
