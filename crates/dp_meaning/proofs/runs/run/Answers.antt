use Rattle.std.proofs.lemmas.Result.{IfOk-weaker}
use Rattle.dp_meaning.specs.Programs.{program_run}
use Rattle.dp_meaning.proofs.Alone.{stops-as}
use Rattle.dp_meaning.proofs.runs.run.Goals as goal

pub returns : goal.returns
unfolding program_run
returns g c =
    let e = (rw (c.statements_of.ensures, c.in_ok-state.ensures) at c.body.ensures) in
    IfOk-weaker c.stop_at.result _ _ (λ stop is. stops-as _ _ _ stop e.meets (rw c.halt_of-halt.ensures at is))
    c.stop_at.ensures
