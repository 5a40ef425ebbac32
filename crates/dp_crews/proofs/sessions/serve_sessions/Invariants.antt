use Rattle.dp_crews.specs.Gates.{Steps, gating}
use Rattle.dp_crews.specs.Workers.{Booked, ServedEngine, engine_post, means}
use Rattle.dp_crews.proofs.sessions.serve_sessions.Given as goal

abbrev pub invariant-engines : goal.invariant-engines
invariant-engines g l =
    Booked l.counter l.fn.clerk l.clerk l.fn.tally l.tally
    × Steps ServedEngine l.counter
    (engine_post l.fn.clerk (gating g.H.Gate l.fn.gate) (means g.D.Dialer g.P.Spawner l.fn.dialer l.fn.spawner)
    l.fn.tally)
    (engine_post l.clerk (gating g.H.Gate l.gate) (means g.D.Dialer g.P.Spawner l.dialer l.spawner) l.tally)
