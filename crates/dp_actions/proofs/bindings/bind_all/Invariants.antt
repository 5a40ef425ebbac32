use Rattle.std.proofs.Common.{◌≡◌, drop}
use Rattle.dp_actions.specs.Effects.{with_globals}
use Rattle.dp_actions.proofs.bindings.bind_all.Given as goal

abbrev pub invariant-loop-name : goal.invariant-loop-name
invariant-loop-name l = with_globals l.names l.fn.state ≡ with_globals (drop l.name-index l.names) l.state
