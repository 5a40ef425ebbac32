use Rattle.std.proofs.Common.{◌≡◌, ◌≤◌, ◌++◌, List, ℕ, [], Some}
use Rattle.dp_records.specs.inner.Audits.{IsReading}
use Rattle.dp_records.proofs.records.read_lines.Given as goal

abbrev pub invariant-pieces : goal.invariant-pieces
invariant-pieces g l =
    (g.S.Source.faults l.fn.source ≤ g.S.Source.faults l.source)
    × ((start : g.row.A.Denot) (init bytes : List ℕ) → g.S.Source.left l.fn.source ≡ Some bytes
    → IsReading g.A.Responder.step start init [] l.fn.reading
    → (read left : List ℕ) × (bytes ≡ read ++ left) × (g.S.Source.left l.source ≡ Some left)
    × IsReading g.A.Responder.step start init read l.reading)
