use Rattle.dp_actions.proofs.joins.operated.Goals as goal

pub returns-in-Concat : goal.returns-in-Concat
returns-in-Concat c = rw c.in-Concat.is c.joined.ensures

pub returns-in_default : goal.returns-in_default
returns-in_default c = c.value_of-answer.ensures _ c.binary.ensures
