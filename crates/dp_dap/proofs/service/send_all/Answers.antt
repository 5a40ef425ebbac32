use Rattle.std.proofs.Common.{arith}
use Rattle.dp_bodies.specs.Frames.{body_frame}
use Rattle.dp_conversation.proofs.FrontLaws.{front_of_next}
use Rattle.std.proofs.lemmas.Result.{err_from_is_err_and}
use Rattle.dp_dap.proofs.ServiceLaws.{frames_more}
use Rattle.dp_dap.proofs.service.send_all.Goals as goal

pub returns-in_err-send-clause-taken : goal.returns-in_err-send-clause-taken
returns-in_err-send-clause-taken g c =
    let p = err_from_is_err_and c.from_residual.result c.from_residual.ensures.1 in
    rw p.1
    (front_of_next body_frame (g.K.Sink.taken c.args.sink.now) (g.K.Sink.taken c.loop-text.sink)
    (g.K.Sink.taken c.send.new.sink) c.args.texts.now c.loop-text.text-index c.text-item.result
    c.loop-text-test.true c.text-item.is c.loop-text.invariant.1 (rw c.as_slice.ensures at c.in_err-send.ensures.taken))

pub loop-text-preserved : goal.loop-text-preserved
loop-text-preserved g c = (
  omega (arith, c.loop-text.invariant.0, c.in_ok-send.ensures.sink_later),
  frames_more (g.K.Sink.taken c.args.sink.now) (g.K.Sink.taken c.loop-text.sink) (g.K.Sink.taken c.send.new.sink)
      c.args.texts.now c.loop-text.text-index c.text-item.result c.loop-text-test.true c.text-item.is
      c.loop-text.invariant.1 (rw c.as_slice.ensures at c.in_ok-send.ensures.taken),
)
