use Rattle.std.proofs.Common.{◌≡◌}
use Rattle.dp_step.specs.declared.machine.Machine.{Machine}
use Rattle.dp_step.specs.Stands.{rest_of}
use Rattle.dp_step.specs.inner.Leaps.{driven}
use Rattle.dp_step.proofs.machine.Machine.finish.Given as goal

-- what was to be done comes to the same as what is to be done
pub record OnWay (old new : Machine) : Type 0 where
  pub same : driven old (rest_of old old.state) ≡ driven new (rest_of new new.state)
  pub same_bound : new.bound ≡ old.bound

abbrev pub invariant-loop : goal.invariant-loop
invariant-loop l = OnWay l.fn.self l.self
