use Rattle.std.proofs.Common.{◌≡◌, true, not, ◌==◌, take}
use Rattle.std.specs.List.{list_all}
use Rattle.dp_ide.proofs.lines.run_before.Given as goal

abbrev pub invariant-loop-at : goal.invariant-loop-at
invariant-loop-at l = list_all (λ byte. not (byte == l.mark)) (take l.at l.bytes) ≡ true
