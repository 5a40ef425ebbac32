use Rattle.std.proofs.Common.{◌≡◌, ◌≤◌, length, take}
use Rattle.dp_bodies.proofs.heads.compared.Given as goal

abbrev pub invariant-loop-index : goal.invariant-loop-index
invariant-loop-index l = (l.index ≤ length l.bytes) × (take l.index l.bytes ≡ take l.index l.wanted)
