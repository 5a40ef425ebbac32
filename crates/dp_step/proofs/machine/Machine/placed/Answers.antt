use Rattle.std.proofs.Common.{refl}
use Rattle.dp_step.proofs.Smalls.{placed-moves}
use Rattle.dp_step.proofs.machine.Machine.placed.Goals as goal

pub returns : goal.returns
returns c = placed-moves c.args.self.now _ c.args.line c.args.hand refl refl refl c.put_hand.ensures refl refl
