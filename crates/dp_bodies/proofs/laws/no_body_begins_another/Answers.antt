use Rattle.dp_bodies.proofs.FrameLaws.{no_body_begins}
use Rattle.dp_bodies.proofs.laws.no_body_begins_another.Goals as goal

pub returns : goal.returns
returns c = no_body_begins
