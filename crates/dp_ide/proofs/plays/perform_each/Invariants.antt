use Rattle.std.proofs.Common.{◌≤◌, take}
use Rattle.dp_outside.specs.Changes.{change}
use Rattle.dp_ide.specs.inner.Progress.{Performs}
use Rattle.dp_ide.proofs.plays.perform_each.Given as goal

abbrev pub invariant-loop-one : goal.invariant-loop-one
invariant-loop-one g l =
    (g.S.Source.faults l.fn.source ≤ g.S.Source.faults l.source) × (g.K.Sink.faults l.fn.sink ≤ g.K.Sink.faults l.sink)
    × (g.O.Sink.faults l.fn.out ≤ g.O.Sink.faults l.out)
    × Performs (take l.one-index l.script) l.fn.packets l.packets l.fn.heard l.heard
    (change g.S.Source.left g.S.Source.faults l.fn.source l.source)
    (change g.K.Sink.taken g.K.Sink.faults l.fn.sink l.sink) (change g.O.Sink.taken g.O.Sink.faults l.fn.out l.out)
