use Rattle.dp_lanes.proofs.PassedLaws.{passes_fed}
use Rattle.dp_lanes.proofs.laws.fed_has_passed.Goals as goal

pub returns : goal.returns
returns c = passes_fed
