use Rattle.dp_small_steps.proofs.waits.passed_on.Goals as goal

pub returns : goal.returns
returns c = c.alone.ensures
