use Rattle.dp_step.proofs.machine.Machine.write_global.Goals as goal

pub returns : goal.returns
returns c = rw c.len-depth.ensures at c.write_at.ensures
