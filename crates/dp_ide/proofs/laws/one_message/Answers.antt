use Rattle.dp_ide.proofs.EndLaws.{one_message_of}
use Rattle.dp_ide.proofs.laws.one_message.Goals as goal

pub returns : goal.returns
returns c = one_message_of
