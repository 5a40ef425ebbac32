use Rattle.std.proofs.Common.{◌≡◌}
use Rattle.dp_state.specs.Functions.{with_parameters}
use Rattle.dp_state.proofs.frames.set_parameters.Given as goal

abbrev pub invariant-loop-name : goal.invariant-loop-name
invariant-loop-name l =
    (goal.iterator-loop-name).can_next l.name-iterator
    × (goal.iterator-loop-name).is_finite l.name-iterator
    × (with_parameters l.name-iterator.a.rest.now l.name-iterator.b.rest.items l.vars ≡ with_parameters l.fn.names
    l.fn.values l.fn.vars)
