use Rattle.dp_wire.proofs.SplitLaws.{commands_split}
use Rattle.dp_wire.proofs.laws.commands_are_split.Goals as goal

pub returns : goal.returns
returns c = commands_split
