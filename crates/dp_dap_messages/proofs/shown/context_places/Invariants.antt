use Rattle.std.proofs.Common.{◌≡◌, ◌++◌, drop}
use Rattle.dp_dap_messages.specs.Values as spec
use Rattle.dp_dap_messages.proofs.shown.context_places.Given as goal

abbrev pub invariant-loop-context : goal.invariant-loop-context
invariant-loop-context l =
    l.places.items ++ spec.context_places l.level (drop l.context-index l.contexts)
    ≡ spec.context_places l.level l.contexts
