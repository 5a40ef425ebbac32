use Rattle.std.proofs.Common.{◌≡◌, ◌+◌, ◌-◌, ◌≤◌, length, drop}
use Rattle.std.specs.List.{prefix_len}
use Rattle.dp_lexer.specs.Bytes.{is_digit}
use Rattle.dp_lexer.proofs.numbers.digits_len.Given as goal

abbrev pub invariant-loop-n : goal.invariant-loop-n
invariant-loop-n l = (l.n + prefix_len is_digit (drop l.n l.z) ≡ prefix_len is_digit l.z) × (l.n ≤ length l.z)

abbrev pub decreases-loop-n : goal.decreases-loop-n
decreases-loop-n l = length l.z - l.n
