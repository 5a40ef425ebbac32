use Rattle.std.proofs.Common.{◌≡◌, ◌≤◌, take}
use Rattle.dp_wire.specs.Frames.{packet_limit}
use Rattle.dp_wire.specs.Received.{length_digits}
use Rattle.dp_wire.proofs.length.read_length.Given as goal

abbrev pub invariant-loop-index : goal.invariant-loop-index
invariant-loop-index l =
    record { spelt : take l.index l.bytes ≡ length_digits l.length; fits : l.length ≤ packet_limit }
