use Rattle.std.proofs.Common.{◌≡◌, ◌≤◌, length, vec_len, vec_capacity}
use Rattle.std.specs.List.{AllZip}
use Rattle.dp_outside.specs.inner.Threads.{Settled}
use Rattle.dp_outside.proofs.crews.run_each.Given as goal

abbrev pub invariant-loop-one : goal.invariant-loop-one
invariant-loop-one g l =
    AllZip (λ one. Settled g.J.Job.may_give one.job one.granted) l.yielded l.answers.items
    × (vec_len l.answers ≡ length l.yielded)
    × (length l.fn.asked.items ≤ vec_capacity l.answers)
