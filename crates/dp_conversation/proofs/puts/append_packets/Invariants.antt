use Rattle.std.proofs.Common.{◌≡◌, ◌++◌, take}
use Rattle.std.specs.List.{flat_map}
use Rattle.dp_wire.specs.Frames.{packet_frame}
use Rattle.dp_conversation.proofs.puts.append_packets.Given as goal

abbrev pub invariant-loop-text : goal.invariant-loop-text
invariant-loop-text l = l.sent.items ≡ l.initial.sent.items ++ flat_map packet_frame (take l.text-index l.texts)
