use Rattle.dp_world.proofs.TranscriptLaws.{puts_session}
use Rattle.dp_world.proofs.writes.session.Goals as goal

pub returns : goal.returns
returns g c = λ of has.
    let end = c.in_ok-end.ensures in
    puts_session (g.A.Engines.known c.args.engines.now) c.args.link c.args.key.now c.args.host.now c.args.port
    c.args.engine c.in_ok-end.end
    end.received end.given end.own end.outcome
    c.service.result c.args.text.now.items c.admission.new.text.items c.service.new.text.items of has
    c.in_ok-admission.ensures c.service.ensures
