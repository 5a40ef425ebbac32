use Rattle.dp_small_steps.proofs.parts.call_native.Goals as goal

pub returns : goal.returns
returns c = λ setting. c.given.ensures setting _ _ (rw c.as_slice.ensures at c.native_call-made.ensures.run)
