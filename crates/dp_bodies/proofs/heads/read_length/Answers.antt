use Rattle.dp_bodies.proofs.HeadLaws.{digits_unfinished, digits_none}
use Rattle.dp_bodies.proofs.heads.read_length.Goals as goal

pub returns-in-Unfinished : goal.returns-in-Unfinished
returns-in-Unfinished c = digits_unfinished c.args.bytes.now c.in-Unfinished.ensures

pub returns-in-None : goal.returns-in-None
returns-in-None c = digits_none c.args.bytes.now c.in-None.ensures
