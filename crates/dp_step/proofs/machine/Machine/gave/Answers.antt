use Rattle.std.proofs.Common.{refl}
use Rattle.dp_step.proofs.LeapLaws.{ends-there, gives-on}
use Rattle.dp_step.proofs.machine.Machine.gave.Goals as goal

pub returns-in-Ok : goal.returns-in-Ok
returns-in-Ok c = λ part s ran.
    gives-on c.args.self.now part s c.in-Ok.signal _ (rw c.in-Ok.is at ran) refl refl refl c.put_hand.ensures refl refl

pub returns-in-Err-Finished : goal.returns-in-Err-Finished
returns-in-Err-Finished c = λ part s ran.
    ends-there c.args.self.now part s c.in-Err-Finished.outcome (rw
    (c.in-Err-Finished.is, c.in-Err-Finished.field-0-is) at ran)
