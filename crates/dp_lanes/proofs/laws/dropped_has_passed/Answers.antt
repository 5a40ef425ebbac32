use Rattle.dp_lanes.proofs.PassedLaws.{passes_dropped}
use Rattle.dp_lanes.proofs.laws.dropped_has_passed.Goals as goal

pub returns : goal.returns
returns c = passes_dropped
