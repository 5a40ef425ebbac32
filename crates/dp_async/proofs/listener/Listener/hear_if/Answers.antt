use Rattle.std.proofs.Common.{true, false}
use Rattle.std.proofs.lemmas.Result.{err_from_is_err_and}
use Rattle.dp_async.proofs.listener.Listener.hear_if.Goals as goal

pub returns-then-not-unheard-clause-position : goal.returns-then-not-unheard-clause-position
returns-then-not-unheard-clause-position g c = λ start going o s out. (s, out c.if-not-unheard.true)

pub returns-in_err-hear_all-clause-position : goal.returns-in_err-hear_all-clause-position
returns-in_err-hear_all-clause-position g c =
    let p = err_from_is_err_and c.from_residual.result c.from_residual.ensures.1 in
    λ start going o s out. rw (p.1, p.2) (c.in_err-hear_all.ensures.position start going o s)

pub returns-then-branch-clause-position : goal.returns-then-branch-clause-position
returns-then-branch-clause-position g c = λ start going o s out.
    rw c.if-branch.true at c.in_ok-hear_all.ensures.position start going o s

pub returns-clause-position : goal.returns-clause-position
returns-clause-position g c = λ start going o s out.
    rw c.if-branch.false at c.in_ok-hear_all.ensures.position start going o s
