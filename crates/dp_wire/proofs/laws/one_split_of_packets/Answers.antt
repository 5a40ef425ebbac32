use Rattle.dp_wire.proofs.PacketLaws.{one_packet_split}
use Rattle.dp_wire.proofs.laws.one_split_of_packets.Goals as goal

pub returns : goal.returns
returns c = one_packet_split
