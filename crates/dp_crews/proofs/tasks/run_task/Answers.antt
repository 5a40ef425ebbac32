use Rattle.std.proofs.Common.{OnOk, subst, sym}
use Rattle.dp_crews.specs.declared.tasks.Closed.TheVariants as closed
use Rattle.dp_crews.specs.Gates.{Works, gating}
use Rattle.dp_crews.specs.Tasks.{Did}
use Rattle.dp_crews.specs.Workers.{Booked, NoEngine, ServedEngine, engine_post, means}
use Rattle.dp_crews.proofs.tasks.run_task.Goals as goal

pub returns-in-Engines : goal.returns-in-Engines
returns-in-Engines g c =
    let over = c.serve_sessions-over in
    let after = means g.D.Dialer g.P.Spawner over.new.dialer over.new.spawner in
    subst (λ port. Did g.G.Gate g.H.Gate g.D.Dialer g.P.Spawner port c.args.task.clerk c.args.task.count
    (closed.Engines over.new.gate over.new.tally) over.new.clerk over.result)
    (sym c.in-Engines.is) (
      (
        after,
        subst (λ t. Works ServedEngine NoEngine c.args.task.count
            (engine_post c.args.task.clerk (gating g.H.Gate c.in-Engines.gate)
            (means g.D.Dialer g.P.Spawner c.in-Engines.dialer c.in-Engines.spawner) t)
            (engine_post over.new.clerk (gating g.H.Gate over.new.gate) after over.new.tally) over.result)
            c.new-tally.ensures over.ensures.served,
      ),
      subst (λ t. OnOk over.result (Booked c.args.task.count c.args.task.clerk over.new.clerk t over.new.tally))
          c.new-tally.ensures over.ensures.booked,
    )
