use Rattle.std.proofs.Common.{◌≡◌, ◌≤◌, length, vec_len, vec_capacity}
use Rattle.std.specs.List.{AllZip}
use Rattle.dp_outside.specs.inner.Threads.{Answered}
use Rattle.dp_outside.proofs.crews.join_each.Given as goal

abbrev pub invariant-loop-one : goal.invariant-loop-one
invariant-loop-one g l =
    AllZip (Answered g.J.Job.may_give (λ thread. thread.promise.0.value)) l.yielded l.answers.items
    × (vec_len l.answers ≡ length l.yielded)
    × (length l.fn.started.items ≤ vec_capacity l.answers)
