use Rattle.std.proofs.Common.{◌≡◌, drop}
use Rattle.dp_command.specs.Canonical.{all_bare}
use Rattle.dp_command.proofs.line_writer.all_bare.Given as goal

abbrev pub invariant-loop-b : goal.invariant-loop-b
invariant-loop-b l = all_bare (drop l.b-index l.value) ≡ all_bare l.value
