use Rattle.std.proofs.Common.{ap}
use Rattle.dp_meaning.specs.declared.pure.Unwatched.{Unwatched}
use Rattle.dp_actions.specs.Expressions.{evaluation}
use Rattle.dp_actions.specs.Loops.{do_turns}
use Rattle.dp_actions.specs.Statements.{statement_run}
use Rattle.dp_meaning.proofs.Wholes.{runs-whole}
use Rattle.dp_meaning.proofs.whole.Whole.do_turns.Goals as goal

pub returns : goal.returns
returns c =
    let by = c.evaluator.ensures.by in
    runs-whole c.args.self.now (λ setting s. do_turns c.args.left c.args.line (evaluation c.args.test.now setting)
    (statement_run c.args.body.now setting) s)
    c.do_turns.result c.args.state.now c.do_turns.new.state _ _ _ _
    (ap (λ (q : Unwatched). q.bound) c.evaluator.ensures.unwatched) by.0 by.1 by.2
    c.do_turns.ensures.meets
