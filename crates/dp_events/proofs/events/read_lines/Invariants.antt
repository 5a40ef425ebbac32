use Rattle.std.proofs.Common.{◌≡◌, length}
use Rattle.dp_grammar.proofs.Lines.{IsRead}
use Rattle.dp_events.specs.Lists.{AddsAt}
use Rattle.dp_events.specs.inner.Progress.{IsReading}
use Rattle.dp_events.proofs.events.read_lines.Given as goal

abbrev pub invariant-loop-line : goal.invariant-loop-line
invariant-loop-line l =
    IsReading l.reading l.reading.events.items × (l.number ≡ length l.yielded)
    × IsRead AddsAt l.bytes l.number l.reading.events.items
