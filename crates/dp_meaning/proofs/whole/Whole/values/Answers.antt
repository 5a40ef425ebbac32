use Rattle.std.proofs.Common.{ap}
use Rattle.dp_meaning.specs.declared.pure.Unwatched.{Unwatched}
use Rattle.dp_actions.specs.Expressions.{evaluations}
use Rattle.dp_meaning.proofs.QuietLaws.{quiet-all, runs-at-once}
use Rattle.dp_meaning.proofs.whole.Whole.values.Goals as goal

pub returns : goal.returns
returns c =
    let by = c.evaluator.ensures.by in
    runs-at-once c.args.self.now (evaluations c.args.all.now) c.values.result c.args.state.now c.values.new.state
    _ _ _ _ (ap (λ (q : Unwatched). q.bound) c.evaluator.ensures.unwatched) by.0 by.1 by.2
    (quiet-all c.args.all.now c.requires) c.values.ensures.meets
