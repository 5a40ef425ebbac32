use Rattle.dp_small_steps.proofs.parts.operate.Goals as goal

pub returns : goal.returns
returns c = λ setting. c.linked.ensures setting _ _ c.operated-made.ensures
