use Rattle.dp_lanes.proofs.GoodLaws.{front_good}
use Rattle.dp_lanes.proofs.laws.front_of_frames_is_good.Goals as goal

pub returns : goal.returns
returns c = front_good
