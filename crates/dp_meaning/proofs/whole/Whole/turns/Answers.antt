use Rattle.std.proofs.Common.{ap}
use Rattle.dp_meaning.specs.declared.pure.Unwatched.{Unwatched}
use Rattle.dp_actions.specs.Expressions.{evaluations}
use Rattle.dp_actions.specs.Loops.{turns}
use Rattle.dp_actions.specs.Statements.{statement_run}
use Rattle.dp_meaning.proofs.Wholes.{runs-whole}
use Rattle.dp_meaning.proofs.whole.Whole.turns.Goals as goal

pub returns : goal.returns
returns c =
    let by = c.evaluator.ensures.by in
    runs-whole c.args.self.now (λ setting s. turns c.args.left c.args.line (evaluations c.args.tests.now setting)
    (evaluations c.args.after.now setting) (statement_run c.args.body.now setting) s)
    c.turns.result c.args.state.now c.turns.new.state _ _ _ _
    (ap (λ (q : Unwatched). q.bound) c.evaluator.ensures.unwatched) by.0 by.1 by.2
    c.turns.ensures.meets
