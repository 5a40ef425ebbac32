use Rattle.std.proofs.Common.{◌<◌, ◌++◌, arith}
use Rattle.dp_events.specs.Soak.{sessions}
use Rattle.dp_events.proofs.SoakLaws.{sessions_turn}
use Rattle.dp_events.proofs.soak.put_sessions.Goals as goal

pub sessions-preserved : goal.sessions-preserved
sessions-preserved c =
    let some : 0 < c.sessions.left = omega arith in (
      omega (arith, c.sessions.invariant.0),
      sessions_turn c.sessions.events.items c.put_session.new.events.items
          (c.args.events.now.items ++ sessions 9 c.args.count c.args.seed) c.sessions.link c.sessions.left
          c.sessions.generator.state c.put_session.new.generator.state some c.in_ok-put_session.ensures.events
          c.in_ok-put_session.ensures.state c.sessions.invariant.1,
    )
