use Rattle.std.proofs.Common.{ap}
use Rattle.dp_meaning.specs.declared.pure.Unwatched.{Unwatched}
use Rattle.dp_actions.specs.Expressions.{evaluations}
use Rattle.dp_actions.specs.Run.{and_then, given_up}
use Rattle.dp_meaning.proofs.QuietLaws.{quiet-all, quiet-then, runs-at-once}
use Rattle.dp_meaning.proofs.whole.Whole.effects.Goals as goal

pub returns : goal.returns
returns c =
    let by = c.evaluator.ensures.by in
    runs-at-once c.args.self.now (λ setting s. and_then (evaluations c.args.all.now setting s) given_up)
    c.effects.result c.args.state.now c.effects.new.state
    _ _ _ _ (ap (λ (q : Unwatched). q.bound) c.evaluator.ensures.unwatched) by.0 by.1 by.2
    (quiet-then (evaluations c.args.all.now) given_up (quiet-all c.args.all.now c.requires) (λ _ t. tt))
    c.effects.ensures.meets
