use Rattle.dp_engine.proofs.texts.fault_text.Goals as goal

pub returns-clause-text : goal.returns-clause-text
returns-clause-text c = rw c.in_ok-response.ensures.value at c.text.ensures.value
