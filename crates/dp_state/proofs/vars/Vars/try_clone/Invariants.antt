use Rattle.std.proofs.Common.{◌≡◌, take}
use Rattle.dp_state.proofs.vars.Vars.try_clone.Given as goal

abbrev pub invariant-loop-at : goal.invariant-loop-at
invariant-loop-at l = l.copy ≡ take l.at l.self
