use Rattle.std.proofs.Common.{◌≡◌, ◌≤◌, take}
use Rattle.dp_wire.specs.Received.{length_digits}
use Rattle.dp_bodies.specs.Frames.{body_limit}
use Rattle.dp_bodies.proofs.heads.read_digits.Given as goal

abbrev pub invariant-loop-index : goal.invariant-loop-index
invariant-loop-index l =
    record { spelt : take l.index l.bytes ≡ length_digits l.number; fits : l.number ≤ body_limit }
