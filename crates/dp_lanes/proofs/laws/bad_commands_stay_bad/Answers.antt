use Rattle.dp_lanes.proofs.GoodLaws.{bad_stays}
use Rattle.dp_lanes.proofs.laws.bad_commands_stay_bad.Goals as goal

pub returns : goal.returns
returns c = bad_stays
