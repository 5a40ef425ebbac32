use Rattle.std.proofs.Common.{◌≡◌}
use Rattle.dp_step.specs.declared.machine.Machine.{Machine}
use Rattle.dp_step.specs.Stands.{rest_of}
use Rattle.dp_step.proofs.machine.Machine.advance.Given as goal

-- what was to be done is to be done
pub record Same (old new : Machine) : Type 0 where
  pub rest : rest_of old old.state ≡ rest_of new new.state
  pub same_bundle : new.bundle.now ≡ old.bundle.now
  pub same_bound : new.bound ≡ old.bound

abbrev pub invariant-loop : goal.invariant-loop
invariant-loop l = Same l.fn.self l.self
