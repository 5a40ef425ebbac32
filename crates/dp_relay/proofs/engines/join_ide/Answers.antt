use Rattle.dp_lanes.specs.Places.{received_in}
use Rattle.dp_relay.specs.Ends.{ends}
use Rattle.dp_relay.specs.Engines.{standing}
use Rattle.dp_relay.proofs.EngineLaws.{join_ends}
use Rattle.dp_relay.proofs.engines.join_ide.Goals as goal

pub returns-in-Ok-clause-joined : goal.returns-in-Ok-clause-joined
returns-in-Ok-clause-joined g c =
    let dialer = g.D.Dialer in
    let spawner = g.P.Spawner in
    let done = c.run_lanes-end.result in
    join_ends (received_in c.args.lane).held
    (standing (ends g.S.Source g.K.Sink c.args.source c.args.sink) (dialer.dials c.args.dialer.now)
    (dialer.faults c.args.dialer.now) (spawner.starts c.args.spawner.now) (spawner.faults c.args.spawner.now))
    (standing (ends g.S.Source g.K.Sink done.1.0 done.1.1) (dialer.dials c.dial_ide.new.dialer)
    (dialer.faults c.dial_ide.new.dialer) (spawner.starts c.run_lanes-end.new.spawner)
    (spawner.faults c.run_lanes-end.new.spawner)) c.args.pass.now
    (ends g.D.In.Source g.D.Out.Sink c.in-Ok.ide.0 c.in-Ok.ide.1)
    (ends g.D.In.Source g.D.Out.Sink done.2.0 done.2.1)
    (record {
      unread = c.in-Ok.ensures.unread;
      source_faults = c.in-Ok.ensures.source;
      sink_faults = c.in-Ok.ensures.sink;
    })
    (record { dials = c.in-Ok.ensures.dials; later = c.in-Ok.ensures.cause.later })
    done.0 c.run_lanes-end.ensures
