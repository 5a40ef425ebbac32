use Rattle.std.proofs.Common.{sym, subst}
use Rattle.std.proofs.lemmas.Result.{IfOk-weaker}
use Rattle.dp_meaning.specs.Trace.{IsStop, program_trace}
use Rattle.dp_meaning.specs.Writes.{writes_of}
use Rattle.dp_meaning.proofs.Traces.{stop-of}
use Rattle.dp_meaning.proofs.StopLaws.{program_stops}
use Rattle.dp_meaning.proofs.runs.run_to.Goals as goal

pub returns-clause-stop : goal.returns-clause-stop
returns-clause-stop c =
    IfOk-weaker c.run.result _ _ (λ stop e. subst (IsStop (program_trace c.args.bundle.now c.args.bound
    c.args.writes.now)
    (writes_of c.args.bundle.now c.args.writes.now) c.args.number) (sym e)
    (program_stops c.args.bundle.now c.args.writes.now c.args.bound c.args.number)) c.run.ensures

pub returns-clause-of : goal.returns-clause-of
returns-clause-of c = λ some.
    IfOk-weaker c.run.result _ _ (λ stop is. stop-of c.args.bundle.now c.args.bound c.args.writes.now some c.args.number
    stop is) (returns-clause-stop c)
