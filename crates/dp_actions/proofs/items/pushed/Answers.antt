use Rattle.dp_actions.proofs.Tails.{write-ok}
use Rattle.dp_actions.proofs.items.pushed.Goals as goal

pub returns-in-Ok : goal.returns-in-Ok
returns-in-Ok c = write-ok _ _ _ c.in-Ok.ensures.ok
