use Rattle.std.proofs.Common.{◌≡◌, ◌+◌, ◌++◌}
use Rattle.dp_events.specs.Soak.{sessions}
use Rattle.dp_events.proofs.soak.put_sessions.Given as goal

abbrev pub invariant-sessions : goal.invariant-sessions
invariant-sessions l =
    (l.link + l.left ≡ 9 + l.fn.count)
    × (l.events.items ++ sessions l.link l.left l.generator.state
    ≡ l.initial.events.items ++ sessions 9 l.fn.count l.fn.seed)

abbrev pub decreases-sessions : goal.decreases-sessions
decreases-sessions l = l.left
