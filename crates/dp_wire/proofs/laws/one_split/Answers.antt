use Rattle.dp_wire.proofs.SplitLaws.{one_split_lem}
use Rattle.dp_wire.proofs.laws.one_split.Goals as goal

pub returns : goal.returns
returns c = one_split_lem
