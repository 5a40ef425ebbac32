use Rattle.dp_actions.proofs.items.put.Goals as goal

pub returns : goal.returns
returns c = rw c.in_ok-key.ensures at c.put_under.ensures
