use Rattle.std.proofs.Common.{◌≡◌, ◌<◌, ◌≤◌, count_by, map, not}
use Rattle.dp_outside.specs.Causes.{Rose}
use Rattle.dp_outside.specs.Reports.{grown}
use Rattle.dp_outside.proofs.crews.ask.Given as goal

-- the jobs so far stand in their order with what was told of their starts; the count has not fallen, and rose exactly
-- where one was not granted
abbrev pub invariant-loop-job : goal.invariant-loop-job
invariant-loop-job g l =
    (map (λ one. one.job) l.asked.items ≡ l.yielded)
    × (g.P.Spawner.starts l.spawner ≡ grown (g.P.Spawner.starts l.fn.spawner) (map (λ one. one.granted) l.asked.items))
    × (count_by (λ one. not one.granted) l.asked.items ≡ 0
    → g.P.Spawner.faults l.spawner ≡ g.P.Spawner.faults l.fn.spawner)
    × (0 < count_by (λ one. not one.granted) l.asked.items
    → Rose (g.P.Spawner.faults l.fn.spawner) (g.P.Spawner.faults l.spawner))
    × (g.P.Spawner.faults l.fn.spawner ≤ g.P.Spawner.faults l.spawner)
