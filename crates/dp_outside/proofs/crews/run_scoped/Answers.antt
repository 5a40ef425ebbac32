use Rattle.dp_outside.proofs.PairedLists.{all_settled}
use Rattle.dp_outside.proofs.crews.run_scoped.Goals as goal

pub returns : goal.returns
returns g c =
    all_settled g.J.Job.may_give (λ thread. thread.promise.0.value) (λ one. one.job) (λ one. one.granted)
    c.args.asked.items c.start_each-started.result.items c.join_each.result.items c.start_each-started.ensures.started
    c.join_each.ensures
