use Rattle.std.proofs.Common.{[], refl, sym, append-nil, arith}
use Rattle.std.proofs.lemmas.Result.{err_from_is_err_and}
use Rattle.dp_async.specs.Heard.{GoesOn}
use Rattle.dp_async.specs.inner.Standing.{objects_of, stage_of}
use Rattle.dp_async.proofs.Standings.{cut_short}
use Rattle.dp_async.proofs.Limits.{limit_why, over_after, over_left, too_much_is}
use Rattle.dp_async.proofs.Turns.{stands_limit}
use Rattle.dp_async.proofs.listener.Listener.go.Goals as goal

pub moments-init : goal.moments-init
moments-init g c = (c.requires, omega arith, omega arith, λ start s. (s, tt))

-- a limit was passed: it is left alone
pub returns-in_err-leave-clause-position : goal.returns-in_err-leave-clause-position
returns-in_err-leave-clause-position g c =
    let p = err_from_is_err_and c.from_residual.result c.from_residual.ensures.1 in
    λ start s.
    let at = c.moments.invariant.3 start s in
    let much = rw c.in-Some.is at c.too_much.ensures in
    rw (p.1, p.2)
    (c.in_err-leave.ensures.position start (stage_of c.moments.fresh) (objects_of g.Q.Polled g.K.Sink g.E.Sink
    c.moments.polled c.moments.sink c.moments.out)
    (stands_limit start _ _ _ c.args.going (stage_of c.moments.fresh) _ _ _ at.0 at.1
    (too_much_is c.in-Some.over c.moments.self.log.items c.moments.self.held.held c.moments.self.count
    at.0.counted much)))

pub returns-in-Some-clause-position : goal.returns-in-Some-clause-position
returns-in-Some-clause-position g c = λ start s.
    let at = c.moments.invariant.3 start s in
    let much = rw c.in-Some.is at c.too_much.ensures in
    let e = c.in_ok-leave.ensures in
    let o = objects_of g.Q.Polled g.K.Sink g.E.Sink c.moments.polled c.moments.sink c.moments.out in
    over_left start c.in-Some.over _ _ _ _ _ _
    (e.position start (stage_of c.moments.fresh) o
    (stands_limit start _ _ _ c.args.going (stage_of c.moments.fresh) _ _ _ at.0 at.1
    (too_much_is c.in-Some.over c.moments.self.log.items c.moments.self.held.held c.moments.self.count
    at.0.counted much)))
    (over_after start c.in-Some.over c.moments.self.log.items _ c.moments.self.held.held _ c.moments.self.count _ o _
    e.log e.held e.count refl
    (limit_why start c.in-Some.over c.moments.self.log.items c.moments.self.held.held c.moments.self.count o
    (at.0.reads_on refl) at.0.fits much))

-- a moment
pub returns-in_err-moment-clause-position : goal.returns-in_err-moment-clause-position
returns-in_err-moment-clause-position g c =
    let p = err_from_is_err_and c.from_residual-in_err-moment.result c.from_residual-in_err-moment.ensures.1 in
    λ start s.
    let at = c.moments.invariant.3 start s in
    let free = rw c.in_default.is at c.too_much.ensures in
    rw (p.1, p.2) (c.in_err-moment.ensures.position start (objects_of g.Q.Polled g.K.Sink g.E.Sink c.moments.polled
    c.moments.sink c.moments.out) at.0 at.1 free.0)

pub returns-in_err-arrive-in-Halts-clause-position : goal.returns-in_err-arrive-in-Halts-clause-position
returns-in_err-arrive-in-Halts-clause-position g c =
    let p = err_from_is_err_and c.from_residual-in_err-arrive-in-Halts.result
    c.from_residual-in_err-arrive-in-Halts.ensures.1 in
    λ start s.
    let at = c.moments.invariant.3 start s in
    let free = rw c.in_default.is at c.too_much.ensures in
    let moment = rw c.in-Halts.is at c.in_ok-moment.ensures.position start (objects_of g.Q.Polled g.K.Sink g.E.Sink
    c.moments.polled c.moments.sink c.moments.out) at.0 at.1 free.0 in
    rw (p.1, p.2) (c.in_err-arrive-in-Halts.ensures.position start (objects_of g.Q.Polled g.K.Sink g.E.Sink
    c.moment.new.polled c.moment.new.sink c.moments.out) moment)

pub returns-in-Halts-clause-position : goal.returns-in-Halts-clause-position
returns-in-Halts-clause-position g c = λ start s.
    let at = c.moments.invariant.3 start s in
    let free = rw c.in_default.is at c.too_much.ensures in
    let moment = rw c.in-Halts.is at c.in_ok-moment.ensures.position start (objects_of g.Q.Polled g.K.Sink g.E.Sink
    c.moments.polled c.moments.sink c.moments.out) at.0 at.1 free.0 in
    c.in_ok-arrive-in-Halts.ensures.position start (objects_of g.Q.Polled g.K.Sink g.E.Sink c.moment.new.polled
    c.moment.new.sink c.moments.out) moment

pub returns-in_err-leave-in-Over-clause-position : goal.returns-in_err-leave-in-Over-clause-position
returns-in_err-leave-in-Over-clause-position g c =
    let p = err_from_is_err_and c.from_residual-in_err-leave-in-Over.result
    c.from_residual-in_err-leave-in-Over.ensures.1 in
    λ start s.
    let at = c.moments.invariant.3 start s in
    let free = rw c.in_default.is at c.too_much.ensures in
    let moment = rw c.in-Over.is at c.in_ok-moment.ensures.position start (objects_of g.Q.Polled g.K.Sink g.E.Sink
    c.moments.polled c.moments.sink c.moments.out) at.0 at.1 free.0 in
    rw (p.1, p.2) (c.in_err-leave-in-Over.ensures.position start GoesOn (objects_of g.Q.Polled g.K.Sink g.E.Sink
    c.moment.new.polled c.moment.new.sink c.moments.out) moment.0)

pub returns-in-Over-clause-position : goal.returns-in-Over-clause-position
returns-in-Over-clause-position g c = λ start s.
    let at = c.moments.invariant.3 start s in
    let free = rw c.in_default.is at c.too_much.ensures in
    let moment = rw c.in-Over.is at c.in_ok-moment.ensures.position start (objects_of g.Q.Polled g.K.Sink g.E.Sink
    c.moments.polled c.moments.sink c.moments.out) at.0 at.1 free.0 in
    let e = c.in_ok-leave-in-Over.ensures in
    over_left start c.in-Over.over _ _ _ _ _ _
    (e.position start GoesOn (objects_of g.Q.Polled g.K.Sink g.E.Sink c.moment.new.polled c.moment.new.sink
    c.moments.out)
    moment.0)
    (over_after start c.in-Over.over _ _ _ _ _ _ _ _ e.log e.held e.count refl moment.1)

pub moments-preserved : goal.moments-preserved
moments-preserved g c = (
  c.in_ok-moment.ensures.within,
  omega (arith, c.in_ok-moment.ensures.later),
  omega (arith, c.in_ok-moment.ensures.shrinks),
  λ start s.
      let at = c.moments.invariant.3 start s in
      let free = rw c.in_default.is at c.too_much.ensures in
      rw c.in-Goes.is at c.in_ok-moment.ensures.position start (objects_of g.Q.Polled g.K.Sink g.E.Sink c.moments.polled
      c.moments.sink c.moments.out) at.0 at.1 free.0,
)

pub returns-clause-position : goal.returns-clause-position
returns-clause-position g c = λ start s.
    let at = c.moments.invariant.3 start s in
    cut_short start _ _ _ _ _ _ _ at.0 ([], sym (append-nil _)) refl refl at.0.agrees.later
