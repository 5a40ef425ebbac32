use Rattle.std.proofs.Common.{◌≡◌, ◌<◌, ◌≤◌}
use Rattle.dp_outside.specs.Causes.{Rose}
use Rattle.dp_outside.proofs.crews.note_each.Given as goal

-- the count has not fallen, rose once a start was counted, and stood still before
abbrev pub invariant-loop : goal.invariant-loop
invariant-loop g l =
    (g.P.Spawner.faults l.fn.spawner ≤ g.P.Spawner.faults l.spawner)
    × (0 < l.counter → Rose (g.P.Spawner.faults l.fn.spawner) (g.P.Spawner.faults l.spawner))
    × (l.counter ≡ 0 → g.P.Spawner.faults l.spawner ≡ g.P.Spawner.faults l.fn.spawner)
    × (g.P.Spawner.starts l.spawner ≡ g.P.Spawner.starts l.fn.spawner)
