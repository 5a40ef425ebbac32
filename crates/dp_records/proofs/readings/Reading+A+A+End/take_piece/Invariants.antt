-- What was read is the piece but for the rest.
use Rattle.std.proofs.Common.{◌≡◌, ◌++◌, List, ℕ, length}
use Rattle.dp_records.specs.inner.Audits.{IsReading}
use Rattle.dp_records.proofs.readings.Reading+A+A+End.take_piece.Given as goal

abbrev pub invariant-lines : goal.invariant-lines
invariant-lines g l =
    (done : List ℕ) × (l.piece ≡ done ++ l.rest)
    × ((start : g.row.A.Denot) (init bytes : List ℕ) → IsReading g.A.Responder.step start init bytes l.fn.self
    → IsReading g.A.Responder.step start init (bytes ++ done) l.self)

abbrev pub decreases-lines : goal.decreases-lines
decreases-lines g l = length l.rest
