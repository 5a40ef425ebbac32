use Rattle.std.proofs.Common.{refl}
use Rattle.dp_step.proofs.Smalls.{moves_as}
use Rattle.dp_step.proofs.machine.Machine.left.Goals as goal

pub returns : goal.returns
returns c = moves_as c.args.self.now _ _ _ _ _ (rw (c.returned.ensures, c.leave.ensures) refl) refl refl c.take.ensures
