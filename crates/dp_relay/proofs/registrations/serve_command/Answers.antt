use Rattle.dp_relay.specs.inner.Replying.{sink_end}
use Rattle.dp_relay.proofs.AnswerLaws.{answer_fits}
use Rattle.dp_relay.proofs.ServeLaws.{replied_by}
use Rattle.dp_relay.proofs.registrations.serve_command.Goals as goal

pub put_reply-requires-clause-fits : goal.put_reply-requires-clause-fits
put_reply-requires-clause-fits g c =
    answer_fits c.args.clerk.now c.answer.new.clerk c.args.host.now c.args.command.now c.in_ok-reply.reply
    c.requires.host c.in_ok-reply.ensures.answered

pub returns : goal.returns
returns g c =
    replied_by c.args.clerk.now c.answer.new.clerk c.args.host.now c.args.command.now
    (sink_end g.K.Sink c.args.sink.now) (sink_end g.K.Sink c.put_reply.new.sink) c.in_ok-reply.reply
    c.in_ok-reply.ensures.answered c.put_reply.result c.put_reply.ensures
