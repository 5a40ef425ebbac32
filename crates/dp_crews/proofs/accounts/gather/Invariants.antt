use Rattle.std.proofs.Common.{◌≡◌, ◌-◌, length, vec_len, vec_capacity, MatchResult}
use Rattle.dp_crews.specs.inner.Accounts.{FoldsBoth, HasRoom, TookOver, TookUndone}
use Rattle.dp_crews.proofs.accounts.gather.Given as goal

abbrev pub invariant-loop-answer : goal.invariant-loop-answer
invariant-loop-answer g l =
    FoldsBoth (λ answer v w x y. MatchResult answer (λ over. TookOver over.closed over.clerk over.over v w x y)
    (λ task. TookUndone task.port v w x y)) l.yielded l.fn.clerk l.clerk l.fn.account l.account
    × (l.clerk.desk ≡ l.fn.clerk.desk)
    × HasRoom (length l.fn.answers.items - length l.yielded) (vec_len l.account.ides) (vec_capacity l.account.ides)
    (vec_len l.account.engines) (vec_capacity l.account.engines)
