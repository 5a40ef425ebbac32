use Rattle.dp_step.proofs.ApartLaws.{evaluation-comes}
use Rattle.dp_step.proofs.apart.evaluation.Goals as goal

pub returns-in-Ok : goal.returns-in-Ok
returns-in-Ok c =
    evaluation-comes c.args.bundle.now c.args.e.now c.args.state.now c.in_ok-copy.copy c.idle-machine.result
    c.in-Ok.value c.value_of_all.new.self.state c.into_state-after.result c.in_ok-copy.ensures c.idle-machine.ensures
    c.into_state-after.ensures (rw c.in-Ok.is at c.value_of_all.ensures)
