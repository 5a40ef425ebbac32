use Rattle.std.proofs.Common.{ap}
use Rattle.dp_meaning.specs.declared.pure.Unwatched.{Unwatched}
use Rattle.dp_actions.specs.Expressions.{evaluation}
use Rattle.dp_actions.specs.Run.{and_then, given_up}
use Rattle.dp_meaning.proofs.QuietLaws.{quiet-momentless, quiet-then, runs-at-once}
use Rattle.dp_meaning.proofs.whole.Whole.effect.Goals as goal

pub returns : goal.returns
returns c =
    let by = c.evaluator.ensures.by in
    runs-at-once c.args.self.now (λ setting s. and_then (evaluation c.args.e.now setting s) given_up)
    c.effect.result c.args.state.now c.effect.new.state
    _ _ _ _ (ap (λ (q : Unwatched). q.bound) c.evaluator.ensures.unwatched) by.0 by.1 by.2
    (quiet-then (evaluation c.args.e.now) given_up (quiet-momentless c.args.e.now c.requires) (λ _ t. tt))
    c.effect.ensures.meets
