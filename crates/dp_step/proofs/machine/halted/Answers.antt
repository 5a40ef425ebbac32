use Rattle.std.proofs.Common.{refl}
use Rattle.dp_step.proofs.machine.halted.Goals as goal

pub returns-in-Finished : goal.returns-in-Finished
returns-in-Finished c = rw c.in-Finished.is refl
