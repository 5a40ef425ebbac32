use Rattle.std.proofs.Common.{arith}
use Rattle.std.specs.List.{IsDistinct}
use Rattle.dp_state.proofs.vars.Vars.clear.Goals as goal

pub invariant_of-self : goal.invariant_of-self
unfolding IsDistinct
invariant_of-self c = (omega arith, tt)
