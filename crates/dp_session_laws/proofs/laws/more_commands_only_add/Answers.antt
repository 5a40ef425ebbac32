use Rattle.dp_session_laws.proofs.MoreCommands.{alone_grows}
use Rattle.dp_session_laws.proofs.laws.more_commands_only_add.Goals as goal

pub returns : goal.returns
returns c = λ bundle bound key bytes more. alone_grows bundle bound key bytes more
