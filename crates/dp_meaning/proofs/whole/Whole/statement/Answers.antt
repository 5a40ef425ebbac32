use Rattle.std.proofs.Common.{ap}
use Rattle.dp_meaning.specs.declared.pure.Unwatched.{Unwatched}
use Rattle.dp_actions.specs.Statements.{statement_run}
use Rattle.dp_meaning.proofs.Wholes.{runs-whole}
use Rattle.dp_meaning.proofs.whole.Whole.statement.Goals as goal

pub returns : goal.returns
returns c =
    let by = c.evaluator.ensures.by in
    runs-whole c.args.self.now (statement_run c.args.statement.now)
    c.statement.result c.args.state.now c.statement.new.state _ _ _ _
    (ap (λ (q : Unwatched). q.bound) c.evaluator.ensures.unwatched) by.0 by.1 by.2
    c.statement.ensures.meets
