use Rattle.std.proofs.Common.{◌≡◌, ◌+◌, ◌-◌, ◌≤◌, length, drop}
use Rattle.std.specs.List.{prefix_len}
use Rattle.dp_command.specs.inner.Parts.{test_of}
use Rattle.dp_command.proofs.sort.run_len.Given as goal

abbrev pub invariant-loop-n : goal.invariant-loop-n
invariant-loop-n l =
    (l.n + prefix_len (test_of l.sort) (drop l.n l.bytes) ≡ prefix_len (test_of l.sort) l.bytes)
    × (l.n ≤ length l.bytes)

abbrev pub decreases-loop-n : goal.decreases-loop-n
decreases-loop-n l = length l.bytes - l.n
