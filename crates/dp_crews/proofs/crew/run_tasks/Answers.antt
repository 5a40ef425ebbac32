use denote.Param.Send.{Quiet-if}
use mir.Syntax.{of_param}
use Rattle.dp_crews.specs.Tasks.{Did}
use Rattle.dp_outside.specs.Causes.{Rose}
use Rattle.dp_crews.proofs.CrewLaws.{each_ran, refused_back}
use Rattle.dp_crews.proofs.crew.run_tasks.Goals as goal

-- nothing of these types is left behind a job
pub crew-requires-clause-ready : goal.crew-requires-clause-ready
crew-requires-clause-ready g c κs within job =
    let b = c.type_bounds in (
      record { owned = b.send-A.owned; leaving = λ k. Quiet-if (k (of_param 1)) _ _ (λ x w. tt) (λ x w. tt) },
      record { owned = b.send-B.owned; leaving = λ k. Quiet-if (k (of_param 2)) _ _ (λ x w. tt) (λ x w. tt) },
      record { owned = b.send-C.owned; leaving = λ k. Quiet-if (k (of_param 3)) _ _ (λ x w. tt) (λ x w. tt) },
      record { owned = b.send-G.owned; leaving = λ k. Quiet-if (k (of_param 4)) _ _ (λ x w. tt) (λ x w. tt) },
      record { owned = b.send-H.owned; leaving = λ k. Quiet-if (k (of_param 5)) _ _ (λ x w. tt) (λ x w. tt) },
      record { owned = b.send-D.owned; leaving = λ k. Quiet-if (k (of_param 6)) _ _ (λ x w. tt) (λ x w. tt) },
      record { owned = b.send-P.owned; leaving = λ k. Quiet-if (k (of_param 7)) _ _ (λ x w. tt) (λ x w. tt) },
      record { owned = b.send-G-In.owned; leaving = λ k. Quiet-if (k (of_param 8)) _ _ (λ x w. tt) (λ x w. tt) },
      record { owned = b.send-G-Out.owned; leaving = λ k. Quiet-if (k (of_param 9)) _ _ (λ x w. tt) (λ x w. tt) },
      record { owned = b.send-H-In.owned; leaving = λ k. Quiet-if (k (of_param 10)) _ _ (λ x w. tt) (λ x w. tt) },
      record { owned = b.send-H-Out.owned; leaving = λ k. Quiet-if (k (of_param 11)) _ _ (λ x w. tt) (λ x w. tt) },
      record { owned = b.send-D-In.owned; leaving = λ k. Quiet-if (k (of_param 12)) _ _ (λ x w. tt) (λ x w. tt) },
      record { owned = b.send-D-Out.owned; leaving = λ k. Quiet-if (k (of_param 13)) _ _ (λ x w. tt) (λ x w. tt) },
      record { shared = b.sync-R.shared },
      record { shared = b.sync-A.shared },
      record { shared = b.sync-B.shared },
      record { shared = b.sync-C.shared },
      record { shared = b.sync-P-Runtime.shared },
    )

pub returns-clause-done : goal.returns-clause-done
returns-clause-done g c =
    each_ran _ _ _ (λ work task over. Did g.G.Gate g.H.Gate g.D.Dialer g.P.Spawner task.port task.clerk task.count
    over.closed over.clerk over.over) (λ back. back.items) _ _ _ _ c.in_ok-jobs.ensures
    c.in_ok-answers.ensures.answers c.items_back.ensures

pub returns-clause-refused : goal.returns-clause-refused
returns-clause-refused g c =
    refused_back _ (Rose (g.P.Spawner.faults c.args.spawner.now) (g.P.Spawner.faults c.crew.new.self))
    (λ back. back.items) _ _ c.in_ok-answers.ensures.refused c.items_back.ensures
