use Rattle.std.proofs.Common.{◌≡◌, ◌+◌, ◌*◌, ◌++◌}
use Rattle.dp_events.specs.Soak.{commands, state_after}
use Rattle.dp_events.proofs.soak.put_commands.Given as goal

abbrev pub invariant-commands : goal.invariant-commands
invariant-commands l =
    (l.number + l.left ≡ 1 + l.fn.count)
    × (l.events.items ++ commands l.fn.link l.left l.number l.generator.state
    ≡ l.initial.events.items ++ commands l.fn.link l.fn.count 1 l.initial.generator.state)
    × (state_after (2 * l.left) l.generator.state ≡ state_after (2 * l.fn.count) l.initial.generator.state)

abbrev pub decreases-commands : goal.decreases-commands
decreases-commands l = l.left
