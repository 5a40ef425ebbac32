use Rattle.std.proofs.Common.{◌≡◌, ◌≤◌, length, vec_len, vec_capacity}
use Rattle.std.specs.List.{AllZip}
use Rattle.dp_outside.specs.inner.Threads.{Started}
use Rattle.dp_outside.proofs.crews.start_each.Given as goal

abbrev pub invariant-loop-one : goal.invariant-loop-one
invariant-loop-one g l =
    AllZip (λ one. Started g.J.Job.may_give (λ thread. thread.promise.0.value) one.job one.granted) l.yielded
    l.started.items
    × (vec_len l.started ≡ length l.yielded)
    × (length l.fn.asked.items ≤ vec_capacity l.started)
