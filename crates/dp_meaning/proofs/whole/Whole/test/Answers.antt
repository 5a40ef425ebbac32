use Rattle.std.proofs.Common.{ap}
use Rattle.dp_meaning.specs.declared.pure.Unwatched.{Unwatched}
use Rattle.dp_actions.specs.Expressions.{evaluations}
use Rattle.dp_actions.specs.Loops.{last_holds}
use Rattle.dp_actions.specs.Run.{Done, and_then}
use Rattle.dp_meaning.proofs.QuietLaws.{quiet-all, quiet-then, runs-at-once}
use Rattle.dp_meaning.proofs.whole.Whole.test.Goals as goal

pub returns : goal.returns
returns c =
    let by = c.evaluator.ensures.by in
    runs-at-once c.args.self.now (λ setting s. and_then (evaluations c.args.all.now setting s)
    (λ values t. Done (last_holds values) t))
    c.test.result c.args.state.now c.test.new.state
    _ _ _ _ (ap (λ (q : Unwatched). q.bound) c.evaluator.ensures.unwatched) by.0 by.1 by.2
    (quiet-then (evaluations c.args.all.now) (λ values t. Done (last_holds values) t)
    (quiet-all c.args.all.now c.requires) (λ _ t. tt))
    c.test.ensures.meets
