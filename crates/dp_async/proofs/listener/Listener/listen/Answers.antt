use Rattle.std.proofs.Common.{refl, arith}
use Rattle.std.proofs.lemmas.Result.{err_from_is_err_and}
use Rattle.dp_async.specs.inner.Standing.{objects_of}
use Rattle.dp_async.proofs.Waits.{first_cut_at, first_stands_at}
use Rattle.dp_async.proofs.listener.Listener.listen.Goals as goal

pub returns-in_err-send-clause-position : goal.returns-in_err-send-clause-position
returns-in_err-send-clause-position g c =
    let p = err_from_is_err_and c.from_residual.result c.from_residual.ensures.1 in
    λ start first opens before. rw (p.1, p.2)
    (first_cut_at start _ (objects_of g.Q.Polled g.K.Sink g.E.Sink c.args.polled.now c.args.sink.now c.args.out.now)
    c.args.self.now _ _ _ _ first before refl refl c.in_err-send.ensures.taken c.send.ensures.later opens
    c.requires.log c.in_err-send.ensures.cause)

pub pieces-init : goal.pieces-init
pieces-init g c = (
  omega (arith, c.requires.none),
  λ start first opens before.
      first_stands_at start _
      (objects_of g.Q.Polled g.K.Sink g.E.Sink c.args.polled.now c.args.sink.now c.args.out.now) c.args.self.now _ _
      first before c.in_ok-send.ensures.taken c.send.ensures.later opens c.requires.log c.requires.held
      c.requires.moments c.requires.none,
)

pub returns-in_err-over-clause-position : goal.returns-in_err-over-clause-position
returns-in_err-over-clause-position g c =
    let p = err_from_is_err_and c.from_residual-in_err-over.result c.from_residual-in_err-over.ensures.1 in
    λ start first opens before. rw (p.1, p.2)
    (c.in_err-over.ensures.position start (c.pieces.invariant.1 start first opens before))

pub returns-in-Some-clause-position : goal.returns-in-Some-clause-position
returns-in-Some-clause-position g c = λ start first opens before.
    rw c.in-Some.is at c.in_ok-over.ensures.position start (c.pieces.invariant.1 start first opens before)

-- what was held is answered, and more was waited for
pub returns-in_err-over-2-clause-position : goal.returns-in_err-over-2-clause-position
returns-in_err-over-2-clause-position g c =
    let p = err_from_is_err_and c.from_residual-in_err-over-2.result c.from_residual-in_err-over-2.ensures.1 in
    λ start first opens before.
    let held = rw c.in_default.is at c.in_ok-over.ensures.position start (c.pieces.invariant.1 start first opens before)
    in
    rw (p.1, p.2)
    (c.in_err-over-2.ensures.position start (objects_of g.Q.Polled g.K.Sink g.E.Sink c.answer_held.new.polled
    c.answer_held.new.sink c.answer_held.new.out) held)

pub returns-in-Some-over-clause-position : goal.returns-in-Some-over-clause-position
returns-in-Some-over-clause-position g c = λ start first opens before.
    let held = rw c.in_default.is at c.in_ok-over.ensures.position start (c.pieces.invariant.1 start first opens before)
    in
    rw c.in-Some-over.is at c.in_ok-over-2.ensures.position start (objects_of g.Q.Polled g.K.Sink g.E.Sink
    c.answer_held.new.polled c.answer_held.new.sink c.answer_held.new.out) held

pub pieces-preserved : goal.pieces-preserved
pieces-preserved g c = (
  c.in_ok-over-2.ensures.within,
  λ start first opens before.
      let held = rw c.in_default.is at c.in_ok-over.ensures.position start (c.pieces.invariant.1 start first opens
      before)
      in
      rw c.in_default-over.is at c.in_ok-over-2.ensures.position start (objects_of g.Q.Polled g.K.Sink g.E.Sink
      c.answer_held.new.polled c.answer_held.new.sink c.answer_held.new.out) held,
)
