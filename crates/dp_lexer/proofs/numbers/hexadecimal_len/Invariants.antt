use Rattle.std.proofs.Common.{◌≡◌, ◌+◌, ◌-◌, ◌≤◌, length, drop}
use Rattle.std.specs.List.{prefix_len}
use Rattle.dp_lexer.specs.Bytes.{is_hexadecimal}
use Rattle.dp_lexer.proofs.numbers.hexadecimal_len.Given as goal

abbrev pub invariant-loop-n : goal.invariant-loop-n
invariant-loop-n l =
    (l.n + prefix_len is_hexadecimal (drop l.n l.z) ≡ prefix_len is_hexadecimal l.z) × (l.n ≤ length l.z)

abbrev pub decreases-loop-n : goal.decreases-loop-n
decreases-loop-n l = length l.z - l.n
