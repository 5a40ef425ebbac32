use Rattle.std.proofs.Common.{◌≤◌, take}
use Rattle.std.specs.List.{flat_map}
use Rattle.std.specs.Io.KnownBytes.{Appends}
use Rattle.dp_bodies.specs.Frames.{body_frame}
use Rattle.dp_dap.proofs.service.send_all.Given as goal

abbrev pub invariant-loop-text : goal.invariant-loop-text
invariant-loop-text g l =
    (g.K.Sink.faults l.fn.sink ≤ g.K.Sink.faults l.sink)
    × Appends (g.K.Sink.taken l.fn.sink) (g.K.Sink.taken l.sink) (flat_map body_frame (take l.text-index l.texts))
