use Rattle.dp_wire.proofs.PacketLaws.{packets_split}
use Rattle.dp_wire.proofs.laws.packets_are_split.Goals as goal

pub returns : goal.returns
returns c = packets_split
