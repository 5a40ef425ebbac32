use Rattle.dp_ide.proofs.EndLaws.{one_end_of}
use Rattle.dp_ide.proofs.laws.one_end.Goals as goal

pub returns : goal.returns
returns c = one_end_of
