use Rattle.std.proofs.Common.{[], refl, sym, ap, ◌∙◌, length, append-nil, arith, inl, inr}
use Rattle.std.proofs.lemmas.Result.{err_from_is_err_and}
use Rattle.dp_async.proofs.Standings.{cut_short}
use Rattle.dp_async.proofs.Departures.{due_at, obeyed_none, obeyed_some}
use Rattle.dp_async.proofs.Limits.{held_over}
use Rattle.dp_async.proofs.Turns.{begins_as, rest_shorter}
use Rattle.dp_async.proofs.listener.Listener.answer_held.Goals as goal

pub commands-init : goal.commands-init
commands-init g c = (c.requires, omega arith, λ start s. s)

pub returns-in-Ok-None-clause-position : goal.returns-in-Ok-None-clause-position
returns-in-Ok-None-clause-position g c = λ start s.
    held_over start c.commands.self _ c.too_much.result (c.commands.invariant.2 start s)
    (inl (c.next.ensures.partial.0 cc)) c.too_much.ensures

pub returns-in-Err-clause-position : goal.returns-in-Err-clause-position
returns-in-Err-clause-position g c = λ start s.
    held_over start c.commands.self _ c.too_much-in-Err.result (c.commands.invariant.2 start s)
    (inr (c.in-Err.ensures.refused.0 refl)) c.too_much-in-Err.ensures

pub returns-in_err-departure-clause-position : goal.returns-in_err-departure-clause-position
returns-in_err-departure-clause-position g c =
    let p = err_from_is_err_and c.from_residual.result c.from_residual.ensures.1 in
    λ start s.
    let at = c.commands.invariant.2 start s in
    rw (p.1, p.2)
    (cut_short start _ _ _ _ _ _ _ at ([], c.in_err-departure.ensures.same.log ∙ sym (append-nil _)) refl refl
    at.agrees.later)

pub returns-in_err-over-clause-position : goal.returns-in_err-over-clause-position
returns-in_err-over-clause-position g c =
    let p = err_from_is_err_and c.from_residual-in_err-over.result c.from_residual-in_err-over.ensures.1 in
    let begins = rw c.in-Ok-Some.field-0-is at c.in-Ok-Some.ensures.whole in
    let e = c.in_ok-departure.ensures in
    λ start s. rw (p.1, p.2)
    (c.in_err-over.ensures.position start
    (due_at start c.commands.self _ _ _ _ c.in_ok-departure.departure (c.commands.invariant.2 start s) begins
    (c.drop_front.ensures.held _ _ (begins_as _ _ _ _ e.same.held begins)) e.same.log e.same.count e.moments e.departs))

pub returns-then-is_some-clause-position : goal.returns-then-is_some-clause-position
returns-then-is_some-clause-position g c =
    let begins = rw c.in-Ok-Some.field-0-is at c.in-Ok-Some.ensures.whole in
    let e = c.in_ok-departure.ensures in
    λ start s.
    obeyed_some start c.obey.new.self _ c.in_ok-over.over (sym c.is_some.ensures ∙ c.if-is_some.true)
    (c.in_ok-over.ensures.position start
    (due_at start c.commands.self _ _ _ _ c.in_ok-departure.departure (c.commands.invariant.2 start s) begins
    (c.drop_front.ensures.held _ _ (begins_as _ _ _ _ e.same.held begins)) e.same.log e.same.count e.moments e.departs))

pub commands-preserved : goal.commands-preserved
commands-preserved g c =
    let begins = rw c.in-Ok-Some.field-0-is at c.in-Ok-Some.ensures.whole in
    let e = c.in_ok-departure.ensures in (
      c.in_ok-over.ensures.within,
      omega (arith, c.in_ok-over.ensures.later, e.same.count, c.commands.invariant.1),
      λ start s.
          obeyed_none start c.obey.new.self _ c.in_ok-over.over (sym c.is_some.ensures ∙ c.if-is_some.false)
          (c.in_ok-over.ensures.position start
          (due_at start c.commands.self _ _ _ _ c.in_ok-departure.departure (c.commands.invariant.2 start s) begins
          (c.drop_front.ensures.held _ _ (begins_as _ _ _ _ e.same.held begins)) e.same.log e.same.count e.moments
          e.departs)),
    )

-- a command less is held, or more was read
pub commands-smaller : goal.commands-smaller
commands-smaller g c =
    let begins = rw c.in-Ok-Some.field-0-is at c.in-Ok-Some.ensures.whole in
    let e = c.in_ok-departure.ensures in
    let o = c.in_ok-over.ensures in
    let dropped = c.drop_front.ensures.held _ _ (begins_as _ _ _ _ e.same.held begins) in
    omega (arith, o.within, o.later, o.shrinks, e.same.count, ap length dropped, rest_shorter _ _ _ begins)
