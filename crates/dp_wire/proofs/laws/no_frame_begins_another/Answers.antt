use Rattle.dp_wire.proofs.SplitLaws.{no_frame_begins}
use Rattle.dp_wire.proofs.laws.no_frame_begins_another.Goals as goal

pub returns : goal.returns
returns c = no_frame_begins
