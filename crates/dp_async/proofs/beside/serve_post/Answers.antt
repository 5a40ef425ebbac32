use Rattle.dp_outside.specs.Changes.{change}
use Rattle.dp_async.proofs.Attending.{session_ran}
use Rattle.dp_async.proofs.beside.serve_post.Goals as goal

pub returns : goal.returns
returns g c =
    session_ran c.serve_polled-served.result c.args.bundle.now c.args.bound c.args.key.now c.args.post.now c.args.seat
    c.new-polled.result c.serve_polled-served.new.polled c.take_rest.new.polled c.end.result
    (change g.K.Sink.taken g.K.Sink.faults c.args.sink.now c.serve_polled-served.new.sink)
    (change g.E.Sink.taken g.E.Sink.faults c.args.out.now c.serve_polled-served.new.out) c.requires.seat
    c.new-polled.ensures c.serve_polled-served.ensures.hears c.serve_polled-served.ensures.polled_later
    c.take_rest.ensures c.end.ensures.seat c.end.ensures.right c.end.ensures.kept
    c.serve_polled-served.ensures.sink_later c.serve_polled-served.ensures.out_later
