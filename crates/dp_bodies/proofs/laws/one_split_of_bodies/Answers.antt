use Rattle.dp_bodies.proofs.FrameLaws.{one_body_split}
use Rattle.dp_bodies.proofs.laws.one_split_of_bodies.Goals as goal

pub returns : goal.returns
returns c = one_body_split
