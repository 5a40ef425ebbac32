use Rattle.std.proofs.Common.{◌≡◌, true, take}
use Rattle.dp_wire.specs.Frames.{has_no_nul}
use Rattle.dp_wire.proofs.nuls.first_nul.Given as goal

abbrev pub invariant-loop-at : goal.invariant-loop-at
invariant-loop-at l = has_no_nul (take l.at l.bytes) ≡ true
