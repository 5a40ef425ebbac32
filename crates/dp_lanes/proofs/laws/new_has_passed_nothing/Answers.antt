use Rattle.dp_lanes.proofs.PassedLaws.{passes_nothing}
use Rattle.dp_lanes.proofs.laws.new_has_passed_nothing.Goals as goal

pub returns : goal.returns
returns c = passes_nothing
