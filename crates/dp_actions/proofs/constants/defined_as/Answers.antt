use Rattle.dp_actions.proofs.constants.defined_as.Goals as goal

pub returns-in-Text-clause-run : goal.returns-in-Text-clause-run
returns-in-Text-clause-run c = rw c.in-Text.is (rw c.as_slice.ensures at c.is_there.ensures.run)

pub returns-in-Text-clause-sure : goal.returns-in-Text-clause-sure
returns-in-Text-clause-sure c = rw c.in-Text.is (rw c.as_slice.ensures at c.is_there.ensures.sure)
