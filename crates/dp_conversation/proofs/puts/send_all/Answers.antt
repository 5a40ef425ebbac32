use Rattle.dp_wire.specs.Frames.{packet_frame}
use Rattle.dp_conversation.proofs.FrontLaws.{front_of_next}
use Rattle.std.proofs.lemmas.Result.{err_from_is_err_and}
use Rattle.dp_conversation.proofs.puts.send_all.Goals as goal

pub returns-in_err-send_packet-clause-taken : goal.returns-in_err-send_packet-clause-taken
returns-in_err-send_packet-clause-taken g c =
    let p = err_from_is_err_and c.from_residual.result c.from_residual.ensures.1 in
    rw p.1
    (front_of_next packet_frame (g.K.Sink.taken c.args.sink.now) (g.K.Sink.taken c.loop-text.sink)
    (g.K.Sink.taken c.send_packet.new.sink) c.args.texts.now c.loop-text.text-index c.text-item.result
    c.loop-text-test.true c.text-item.is c.loop-text.invariant.1
    (rw c.as_slice.ensures at c.in_err-send_packet.ensures.taken))
