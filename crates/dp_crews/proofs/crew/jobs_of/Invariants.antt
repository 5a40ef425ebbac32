use Rattle.std.proofs.Common.{◌≡◌, ◌≤◌, length, vec_len, vec_capacity}
use Rattle.std.specs.List.{AllZip}
use Rattle.dp_crews.proofs.crew.jobs_of.Given as goal

abbrev pub invariant-loop-item : goal.invariant-loop-item
invariant-loop-item g l =
    AllZip (λ item job. (job.item ≡ item) × (job.work.now ≡ l.fn.work)) l.yielded l.jobs.items
    × (vec_len l.jobs ≡ length l.yielded)
    × (length l.fn.items.items ≤ vec_capacity l.jobs)
