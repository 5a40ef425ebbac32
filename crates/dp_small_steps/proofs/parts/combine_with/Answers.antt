use Rattle.dp_small_steps.proofs.parts.combine_with.Goals as goal

pub returns : goal.returns
returns c = λ setting. c.given.ensures setting _ _ (rw c.as_slice.ensures at c.combine-made.ensures)
