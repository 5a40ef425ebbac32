use Rattle.std.proofs.Common.{ap}
use Rattle.dp_meaning.specs.declared.pure.Unwatched.{Unwatched}
use Rattle.dp_actions.specs.Expressions.{evaluation}
use Rattle.dp_meaning.proofs.QuietLaws.{quiet-momentless, runs-at-once}
use Rattle.dp_meaning.proofs.whole.Whole.value.Goals as goal

pub returns : goal.returns
returns c =
    let by = c.evaluator.ensures.by in
    runs-at-once c.args.self.now (evaluation c.args.e.now) c.expression.result c.args.state.now c.expression.new.state
    _ _ _ _ (ap (λ (q : Unwatched). q.bound) c.evaluator.ensures.unwatched) by.0 by.1 by.2
    (quiet-momentless c.args.e.now c.requires) c.expression.ensures.meets
