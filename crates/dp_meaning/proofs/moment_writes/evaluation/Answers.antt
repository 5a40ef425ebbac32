use Rattle.dp_meaning.specs.inner.Drive.{only_bounded}
use Rattle.dp_meaning.specs.Writes.{evaluation_limit, evaluation_setting}
use Rattle.std.proofs.Common.{refl}
use Rattle.dp_meaning.proofs.Alone.{evaluated-comes}
use Rattle.dp_meaning.proofs.moment_writes.evaluation.Goals as goal

pub returns-in-Ok : goal.returns-in-Ok
returns-in-Ok c =
    evaluated-comes (only_bounded evaluation_limit) refl refl refl
    (evaluation_setting c.args.bundle.now) c.args.e.now c.args.state.now c.in_ok-copy.copy c.in_ok-copy.ensures _ _
    (rw c.in-Ok.is at c.quietly.ensures)
