use Rattle.std.proofs.Common.{◌≤◌, List, length}
use Rattle.std.specs.List.{flat_map}
use Rattle.std.specs.Io.KnownBytes.{Appends}
use Rattle.dp_records.specs.declared.entry.Entry.{Entry}
use Rattle.dp_records.specs.Records.{line_of}
use Rattle.dp_records.specs.inner.Tapings.{AreOn}
use Rattle.dp_records.proofs.tapes.put_lines.Given as goal

abbrev pub invariant-lines : goal.invariant-lines
invariant-lines g l =
    (g.K.Sink.faults l.fn.sink ≤ g.K.Sink.faults l.sink)
    × ((entries : List Entry) × AreOn l.stream l.bytes entries l.rest
    × Appends (g.K.Sink.taken l.fn.sink) (g.K.Sink.taken l.sink) (flat_map line_of entries))

abbrev pub decreases-lines : goal.decreases-lines
decreases-lines g l = length l.rest
