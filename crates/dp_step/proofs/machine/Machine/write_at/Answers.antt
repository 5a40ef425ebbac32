use Rattle.std.proofs.Common.{refl, ap}
use Rattle.dp_meaning.specs.Writes.{place_or_fault}
use Rattle.dp_step.proofs.machine.Machine.write_at.Goals as goal

pub returns-in-Ok : goal.returns-in-Ok
returns-in-Ok c = (ap place_or_fault c.in-Ok.ensures.ok, refl)

pub returns-in-Err-Fatal : goal.returns-in-Err-Fatal
returns-in-Err-Fatal c = (
  ap place_or_fault (rw c.in-Err-Fatal.field-0-is at c.in-Err-Fatal.ensures.refused),
  ap (λ s. record c.args.self.now { state = s }) c.in-Err-Fatal.ensures.err,
)

pub returns-in-Err-Memory : goal.returns-in-Err-Memory
returns-in-Err-Memory c = rw c.failed.ensures.memory c.failed.ensures.failed
