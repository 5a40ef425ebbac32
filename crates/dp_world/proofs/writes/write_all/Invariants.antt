use Rattle.std.proofs.Common.{◌≡◌, ◌≤◌, ◌++◌, ℕ, List, length}
use Rattle.std.specs.Io.KnownBytes.{Appends}
use Rattle.dp_proxy.specs.Pasts.{Past}
use Rattle.dp_world.specs.declared.shown.Shown.{Shown}
use Rattle.dp_world.specs.inner.LinkLines.{AllShown, lines_of}
use Rattle.dp_world.proofs.writes.write_all.Given as goal

abbrev pub invariant-links : goal.invariant-links
invariant-links g l =
    (g.K.Sink.faults l.fn.out ≤ g.K.Sink.faults l.out)
    × ((done : List (ℕ × Shown _ _)) × (l.initial.left ≡ done ++ l.left)
    × ((past : Past) → AllShown (g.A.Engines.known l.fn.engines) past l.initial.left
    → Appends (g.K.Sink.taken l.fn.out) (g.K.Sink.taken l.out) (lines_of (g.A.Engines.known l.fn.engines) past done)))

abbrev pub decreases-links : goal.decreases-links
decreases-links g l = length l.left
