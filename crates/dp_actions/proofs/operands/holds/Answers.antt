use Rattle.dp_actions.proofs.operands.holds.Goals as goal

pub returns : goal.returns
returns c = c.truthy-holds.ensures
