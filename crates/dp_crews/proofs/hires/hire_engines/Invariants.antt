use Rattle.std.proofs.Common.{◌≡◌, ◌+◌, length, vec_len, vec_capacity}
use Rattle.dp_crews.specs.inner.Accounts.{Folds}
use Rattle.dp_crews.specs.inner.Hires.{Hired, IsEngines, roster}
use Rattle.dp_crews.proofs.hires.hire_engines.Given as goal

abbrev pub invariant-loop-gate : goal.invariant-loop-gate
invariant-loop-gate g l =
    Folds (λ gate. Hired (λ task. task.clerk) (λ task. task.port) (λ task. task.count) (IsEngines gate))
    l.yielded (roster l.fn.clerk l.fn.tasks.items l.fn.count) (roster l.clerk l.tasks.items l.left)
    × (l.clerk.desk ≡ l.fn.clerk.desk)
    × (l.clerk.share + length l.yielded ≡ l.fn.clerk.share)
    × (l.workers + length l.yielded ≡ vec_len l.fn.gates)
    × (l.workers ≡ 0 → l.left ≡ 0)
    × (vec_len l.tasks ≡ vec_len l.fn.tasks + length l.yielded)
    × (vec_len l.dialers + length l.yielded ≡ vec_len l.fn.gates)
    × (vec_capacity l.tasks ≡ vec_capacity l.fn.tasks)
