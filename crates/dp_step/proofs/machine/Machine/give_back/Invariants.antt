use Rattle.dp_step.proofs.ApartLaws.{OnWay}
use Rattle.dp_step.proofs.machine.Machine.give_back.Given as goal

abbrev pub invariant-loop : goal.invariant-loop
invariant-loop l = OnWay l.fn.self l.self
