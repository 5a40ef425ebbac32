use Rattle.dp_actions.proofs.Tails.{write-ok}
use Rattle.dp_actions.proofs.items.put_under.Goals as goal

pub returns-in-Ok : goal.returns-in-Ok
returns-in-Ok c = write-ok _ _ _ (rw c.from_ref.ensures.value at c.in-Ok.ensures.ok)
