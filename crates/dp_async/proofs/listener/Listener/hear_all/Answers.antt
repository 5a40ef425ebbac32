use Rattle.std.proofs.Common.{refl, arith}
use Rattle.std.proofs.lemmas.Result.{err_from_is_err_and}
use Rattle.dp_async.proofs.listener.Listener.hear_all.Goals as goal

pub commands-init : goal.commands-init
commands-init g c = (refl, omega arith, λ start going o s. s)

pub commands-preserved : goal.commands-preserved
commands-preserved g c = (
  omega arith,
  omega arith,
  λ start going o s.
      rw c.in-Answered.is at c.in_ok-hear.ensures.position start going o (c.commands.invariant.2 start going o s),
)

pub returns-in_err-hear-clause-position : goal.returns-in_err-hear-clause-position
returns-in_err-hear-clause-position g c =
    let p = err_from_is_err_and c.from_residual.result c.from_residual.ensures.1 in
    λ start going o s. rw (p.1, p.2)
    (c.in_err-hear.ensures.position start going o (c.commands.invariant.2 start going o s))

pub returns-in-Stops-clause-position : goal.returns-in-Stops-clause-position
returns-in-Stops-clause-position g c =
    λ start going o s.
    rw c.in-Stops.is at c.in_ok-hear.ensures.position start going o (c.commands.invariant.2 start going o s)

pub returns-in-Stays-clause-position : goal.returns-in-Stays-clause-position
returns-in-Stays-clause-position g c =
    λ start going o s.
    rw c.in-Stays.is at c.in_ok-hear.ensures.position start going o (c.commands.invariant.2 start going o s)
