use Rattle.std.proofs.Common.{arith, refl}
use Rattle.dp_crews.specs.Gates.{gating}
use Rattle.dp_crews.specs.Workers.{ServedEngine, engine_post, means}
use Rattle.dp_crews.proofs.CountLaws.{booked_more, booked_none}
use Rattle.dp_crews.proofs.StepLaws.{one_step}
use Rattle.dp_crews.proofs.sessions.serve_sessions.Goals as goal

pub engines-init : goal.engines-init
engines-init g c = (booked_none c.args.clerk.now c.args.tally.now, refl)

pub serve_session-requires-clause-room : goal.serve_session-requires-clause-room
serve_session-requires-clause-room g c =
    omega (
      arith,
      c.engines.invariant.0.all,
      c.engines.invariant.0.kept,
      c.requires.new,
      c.ranges.count.fits,
      c.engines-test.true,
    )

pub engines-preserved : goal.engines-preserved
engines-preserved g c =
    let one = c.in_ok-serve_session.ensures.one in
    let before = c.engines.invariant in (
      booked_more c.engines.counter c.args.clerk.now c.engines.clerk c.serve_session.new.clerk c.args.tally.now
          c.engines.tally c.serve_session.new.tally before.0 one,
      one_step ServedEngine c.engines.counter
          (engine_post c.args.clerk.now (gating g.H.Gate c.args.gate.now)
          (means g.D.Dialer g.P.Spawner c.args.dialer.now c.args.spawner.now) c.args.tally.now)
          (engine_post c.engines.clerk (gating g.H.Gate c.engines.gate)
          (means g.D.Dialer g.P.Spawner c.engines.dialer c.engines.spawner) c.engines.tally)
          (engine_post c.serve_session.new.clerk (gating g.H.Gate c.serve_session.new.gate)
          (means g.D.Dialer g.P.Spawner c.serve_session.new.dialer c.serve_session.new.spawner)
          c.serve_session.new.tally)
          before.1 c.in_ok-serve_session.ensures.served,
    )
