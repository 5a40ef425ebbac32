use Rattle.std.proofs.Common.{◌≤◌, length}
use Rattle.dp_show.specs.inner.Progress.{ShowsOn}
use Rattle.dp_show.proofs.lines.show_held.Given as goal

abbrev pub invariant-packets : goal.invariant-packets
invariant-packets g l =
    (g.K.Sink.faults l.fn.out ≤ g.K.Sink.faults l.out)
    × ShowsOn l.fn.packets l.packets (g.K.Sink.taken l.fn.out) (g.K.Sink.taken l.out)

abbrev pub decreases-packets : goal.decreases-packets
decreases-packets g l = length l.packets.held
