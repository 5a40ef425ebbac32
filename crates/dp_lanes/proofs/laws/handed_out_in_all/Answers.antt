use Rattle.dp_lanes.proofs.PassedLaws.{handed_all}
use Rattle.dp_lanes.proofs.laws.handed_out_in_all.Goals as goal

pub returns : goal.returns
returns c = handed_all
