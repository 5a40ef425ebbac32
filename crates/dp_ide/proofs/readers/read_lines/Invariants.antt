use Rattle.std.proofs.Common.{◌≡◌, length}
use Rattle.dp_grammar.proofs.Lines.{IsRead}
use Rattle.dp_ide.specs.Scripts.{SaysAt}
use Rattle.dp_ide.proofs.readers.read_lines.Given as goal

abbrev pub invariant-loop-line : goal.invariant-loop-line
invariant-loop-line l = (l.number ≡ length l.yielded) × IsRead SaysAt l.bytes l.number l.said.items
