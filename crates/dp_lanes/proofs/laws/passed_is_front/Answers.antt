use Rattle.dp_lanes.proofs.PassedLaws.{passes_front}
use Rattle.dp_lanes.proofs.laws.passed_is_front.Goals as goal

pub returns : goal.returns
returns c = passes_front
