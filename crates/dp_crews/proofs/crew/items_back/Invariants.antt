use Rattle.std.proofs.Common.{◌≡◌, ◌≤◌, length, vec_len, vec_capacity}
use Rattle.std.specs.List.{AllZip}
use Rattle.dp_crews.specs.inner.Crews.{CameBack}
use Rattle.dp_crews.proofs.crew.items_back.Given as goal

abbrev pub invariant-loop-answer : goal.invariant-loop-answer
invariant-loop-answer g l =
    AllZip (CameBack (λ job. job.item)) l.yielded l.back.items
    × (vec_len l.back ≡ length l.yielded)
    × (length l.fn.answers.items ≤ vec_capacity l.back)
