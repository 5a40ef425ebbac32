use Rattle.dp_wire.proofs.PacketLaws.{no_packet_begins}
use Rattle.dp_wire.proofs.laws.no_packet_begins_another.Goals as goal

pub returns : goal.returns
returns c = no_packet_begins
