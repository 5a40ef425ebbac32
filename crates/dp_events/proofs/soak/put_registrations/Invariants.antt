use Rattle.std.proofs.Common.{◌≡◌, ◌+◌, ◌++◌}
use Rattle.dp_events.specs.Soak.{registrations}
use Rattle.dp_events.proofs.soak.put_registrations.Given as goal

abbrev pub invariant-ides : goal.invariant-ides
invariant-ides l =
    (l.number + l.left ≡ 9)
    × (l.events.items ++ registrations l.number l.left ≡ l.initial.events.items ++ registrations 1 8)

abbrev pub decreases-ides : goal.decreases-ides
decreases-ides l = l.left
