use Rattle.dp_small_steps.proofs.parts.put_item.Goals as goal

pub returns : goal.returns
returns c = λ setting. c.lengthened.ensures setting _ _ c.put-made.ensures
