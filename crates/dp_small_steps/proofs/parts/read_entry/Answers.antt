use Rattle.dp_small_steps.proofs.parts.read_entry.Goals as goal

pub returns : goal.returns
returns c = λ setting. c.read_under.ensures setting _ _ c.entry_at-found.ensures
