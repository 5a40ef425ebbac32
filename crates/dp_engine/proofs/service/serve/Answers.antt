use Rattle.dp_engine.proofs.ServiceLaws.{serves_closed, serves_cut}
use Rattle.dp_engine.proofs.service.serve.Goals as goal

pub returns-in-Ok-clause-serves : goal.returns-in-Ok-clause-serves
returns-in-Ok-clause-serves g c = λ key begun.
    rw (c.finish.ensures.taken, c.finish.ensures.faults)
    (serves_closed g.S.Source.left g.S.Source.faults g.K.Sink.taken g.K.Sink.faults g.E.Sink.taken g.E.Sink.faults
    c.args.session.bundle c.args.session.bound key c.args.init c.args.session c.converse-over.result.1
    c.args.source.now c.converse-over.new.source c.args.sink.now c.converse-over.new.sink c.args.out.now
    c.converse-over.new.out c.close.new.out
    c.in-Ok.over c.close.result c.requires.opening begun (rw c.as_slice.ensures at rw c.in-Ok.is at
    c.converse-over.ensures.ok) (rw c.metered.view_is at c.close.ensures.closes) c.converse-over.ensures.out_later)

pub returns-clause-serves : goal.returns-clause-serves
returns-clause-serves g c = λ key begun.
    rw (c.finish.ensures.taken, c.finish.ensures.faults)
    (serves_cut g.S.Source.left g.S.Source.faults g.K.Sink.taken g.K.Sink.faults g.E.Sink.taken g.E.Sink.faults
    c.args.session.bundle c.args.session.bound key c.args.init c.args.session c.converse-over.result.1
    c.args.source.now c.converse-over.new.source c.args.sink.now c.converse-over.new.sink c.args.out.now
    c.converse-over.new.out c.close_cut.new.out
    c.in-Err.fault c.close_cut.result c.requires.opening begun
    (rw c.as_slice.ensures at rw c.in-Err.is at c.converse-over.ensures.cut)
    (rw c.metered.view_is at c.close_cut.ensures.closes) c.converse-over.ensures.out_later
    c.close_cut.ensures.out_later)
