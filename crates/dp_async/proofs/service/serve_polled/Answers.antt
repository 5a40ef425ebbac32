use Rattle.std.proofs.Common.{◌≡◌, ◌≤◌, refl, sym, ap, ◌∙◌, arith}
use Rattle.dp_outside.specs.Changes.{change}
use Rattle.dp_wire.specs.Frames.{packet_frame}
use Rattle.dp_engine.specs.Responses.{init_text}
use Rattle.dp_async.specs.Served.{input_of}
use Rattle.dp_async.specs.inner.Standing.{objects_of}
use Rattle.dp_async.proofs.Closings.{cut_at_start, later_by, served_by, start_of}
use Rattle.dp_async.proofs.service.serve_polled.Goals as goal

pub returns-in_default-clause-hears : goal.returns-in_default-clause-hears
returns-in_default-clause-hears g c =
    rw (c.of.ensures, c.new.ensures.items)
    (cut_at_start c.args.bundle.now c.args.bound c.args.key.now (input_of g.Q.Polled c.args.polled.now)
    (input_of g.Q.Polled c.args.polled.now)
    (change g.K.Sink.taken g.K.Sink.faults c.args.sink.now c.finish.new.self)
    (change g.E.Sink.taken g.E.Sink.faults c.args.out.now c.args.out.now) c.finish.ensures.taken refl)

pub returns-clause-hears : goal.returns-clause-hears
returns-clause-hears g c =
    let before = objects_of g.Q.Polled g.K.Sink g.E.Sink c.args.polled.now c.args.sink.now c.args.out.now in
    let start = start_of c.args.bundle.now c.args.bound c.args.key.now before in
    let shown : c.as_slice.result.now ≡ init_text c.args.bundle.now c.args.key.now =
    c.as_slice.ensures ∙ c.in-Ok.ensures.text in
    rw (c.finish-2.ensures.taken, c.finish-2.ensures.faults, c.of-2.ensures)
    (served_by start c.args.key.now refl c.listen-over.new.self c.closed-served.result
    (objects_of g.Q.Polled g.K.Sink g.E.Sink c.listen-over.new.polled c.listen-over.new.sink c.listen-over.new.out)
    (g.E.Sink.taken c.closed-served.new.out) (g.E.Sink.faults c.closed-served.new.out) c.listen-over.ensures.within
    c.closed-served.ensures.out_later c.listen-over.result
    (c.listen-over.ensures.position start (ap packet_frame (sym shown))
    (c.new-listener.ensures.session ∙ c.in-Ok.ensures.opening) refl)
    c.closed-served.ensures.closes)

pub returns-clause-polled_later : goal.returns-clause-polled_later
returns-clause-polled_later g c =
    let before = objects_of g.Q.Polled g.K.Sink g.E.Sink c.args.polled.now c.args.sink.now c.args.out.now in
    let start = start_of c.args.bundle.now c.args.bound c.args.key.now before in
    let shown : c.as_slice.result.now ≡ init_text c.args.bundle.now c.args.key.now =
    c.as_slice.ensures ∙ c.in-Ok.ensures.text in
    (later_by start c.listen-over.new.self
    (objects_of g.Q.Polled g.K.Sink g.E.Sink c.listen-over.new.polled c.listen-over.new.sink c.listen-over.new.out)
    c.listen-over.result
    (c.listen-over.ensures.position start (ap packet_frame (sym shown))
    (c.new-listener.ensures.session ∙ c.in-Ok.ensures.opening) refl)).breaks

pub returns-clause-sink_later : goal.returns-clause-sink_later
returns-clause-sink_later g c =
    let before = objects_of g.Q.Polled g.K.Sink g.E.Sink c.args.polled.now c.args.sink.now c.args.out.now in
    let start = start_of c.args.bundle.now c.args.bound c.args.key.now before in
    let shown : c.as_slice.result.now ≡ init_text c.args.bundle.now c.args.key.now =
    c.as_slice.ensures ∙ c.in-Ok.ensures.text in
    rw c.finish-2.ensures.faults
    (later_by start c.listen-over.new.self
    (objects_of g.Q.Polled g.K.Sink g.E.Sink c.listen-over.new.polled c.listen-over.new.sink c.listen-over.new.out)
    c.listen-over.result
    (c.listen-over.ensures.position start (ap packet_frame (sym shown))
    (c.new-listener.ensures.session ∙ c.in-Ok.ensures.opening) refl)).faults

pub returns-clause-out_later : goal.returns-clause-out_later
returns-clause-out_later g c =
    let before = objects_of g.Q.Polled g.K.Sink g.E.Sink c.args.polled.now c.args.sink.now c.args.out.now in
    let start = start_of c.args.bundle.now c.args.bound c.args.key.now before in
    let shown : c.as_slice.result.now ≡ init_text c.args.bundle.now c.args.key.now =
    c.as_slice.ensures ∙ c.in-Ok.ensures.text in
    let fails : g.E.Sink.faults c.args.out.now ≤ g.E.Sink.faults c.listen-over.new.out =
    (later_by start c.listen-over.new.self
    (objects_of g.Q.Polled g.K.Sink g.E.Sink c.listen-over.new.polled c.listen-over.new.sink c.listen-over.new.out)
    c.listen-over.result
    (c.listen-over.ensures.position start (ap packet_frame (sym shown))
    (c.new-listener.ensures.session ∙ c.in-Ok.ensures.opening) refl)).fails in
    omega (arith, fails, c.closed-served.ensures.out_later)
