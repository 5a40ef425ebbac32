use Rattle.std.proofs.Common.{◌≡◌, ◌≤◌, ◌-◌, List, ℕ, [], Option, length}
use Rattle.std.specs.Io.KnownBytes.{Consumes}
use Rattle.dp_conversation.specs.Service.{byte_limit}
use Rattle.dp_records.specs.declared.sessions.Over.TheVariants.{Open}
use Rattle.dp_records.specs.inner.Tapings.{IsTaping}
use Rattle.dp_records.proofs.tapes.Taping.take_pieces.Given as goal

abbrev pub invariant-pieces : goal.invariant-pieces
invariant-pieces g l =
    (g.S.Source.faults l.fn.source ≤ g.S.Source.faults l.source)
    × (g.K.Sink.faults l.fn.sink ≤ g.K.Sink.faults l.sink) × (l.count ≤ byte_limit)
    × ((start : g.row.A.Denot) (init : List ℕ) (before : Option (List ℕ))
    → IsTaping g.A.Responder.step start init Open [] l.fn.self before (g.K.Sink.taken l.fn.sink)
    → (read : List ℕ) × (length read ≡ l.count) × Consumes (g.S.Source.left l.fn.source) (g.S.Source.left l.source) read
    × IsTaping g.A.Responder.step start init Open read l.self before (g.K.Sink.taken l.sink))

abbrev pub decreases-pieces : goal.decreases-pieces
decreases-pieces g l = byte_limit - l.count
