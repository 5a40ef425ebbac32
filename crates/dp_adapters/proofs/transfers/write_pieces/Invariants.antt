use Rattle.std.proofs.Common.{◌≡◌, ℕ, List, ◌++◌, length}
use Rattle.std.specs.Io.KnownBytes.{Appends}
use Rattle.dp_adapters.proofs.transfers.write_pieces.Given as goal

-- what is gone from the rest was written
abbrev pub invariant-pieces : goal.invariant-pieces
invariant-pieces g l =
    (done : List ℕ)
    × (l.initial.rest ≡ done ++ l.rest)
    × Appends (g.W.Write.contents l.initial.writer) (g.W.Write.contents l.writer) done

abbrev pub decreases-pieces : goal.decreases-pieces
decreases-pieces g l = length l.rest
