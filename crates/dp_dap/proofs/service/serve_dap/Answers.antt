use Rattle.std.proofs.Common.{subst}
use Rattle.dp_outside.specs.Changes.{change}
use Rattle.dp_dap.specs.Known.{Known}
use Rattle.dp_dap.specs.inner.Exchanges.{Cut, Exchanged}
use Rattle.dp_dap.proofs.EndLaws.{serves_closed, serves_cut}
use Rattle.dp_dap.proofs.service.serve_dap.Goals as goal

pub returns-in-Ok-clause-serves : goal.returns-in-Ok-clause-serves
returns-in-Ok-clause-serves g c =
    rw (c.finish.ensures.taken, c.finish.ensures.faults)
    (serves_closed c.args.gateway.session.bundle c.args.gateway.session.bound c.exchange-over.new.gateway
    (change g.S.Source.left g.S.Source.faults c.args.source.now c.exchange-over.new.source)
    (change g.K.Sink.taken g.K.Sink.faults c.args.sink.now c.exchange-over.new.sink)
    (change g.E.Sink.taken g.E.Sink.faults c.args.out.now c.close.new.out) c.in-Ok.over c.close.result
    (subst (λ (k : Known). Exchanged k c.exchange-over.new.gateway c.in-Ok.over
    (change g.S.Source.left g.S.Source.faults c.args.source.now c.exchange-over.new.source)
    (change g.K.Sink.taken g.K.Sink.faults c.args.sink.now c.exchange-over.new.sink)) c.requires.opening
    (rw c.in-Ok.is at c.exchange-over.ensures.ok)) (rw c.into_session.ensures at c.close.ensures.closes))

pub returns-in-Err-clause-serves : goal.returns-in-Err-clause-serves
returns-in-Err-clause-serves g c =
    rw (c.finish.ensures.taken, c.finish.ensures.faults)
    (serves_cut c.args.gateway.session.bundle c.args.gateway.session.bound c.exchange-over.new.gateway
    (change g.S.Source.left g.S.Source.faults c.args.source.now c.exchange-over.new.source)
    (change g.K.Sink.taken g.K.Sink.faults c.args.sink.now c.exchange-over.new.sink)
    (change g.E.Sink.taken g.E.Sink.faults c.args.out.now c.close_cut.new.out) c.in-Err.fault c.close_cut.result
    (subst (λ (k : Known). Cut k c.exchange-over.new.gateway c.in-Err.fault
    (change g.S.Source.left g.S.Source.faults c.args.source.now c.exchange-over.new.source)
    (change g.K.Sink.taken g.K.Sink.faults c.args.sink.now c.exchange-over.new.sink)) c.requires.opening
    (rw c.in-Err.is at c.exchange-over.ensures.cut)) (rw c.into_session-in-Err.ensures at c.close_cut.ensures.closes))
