use Rattle.std.proofs.Common.{[], ◌∷◌, ◌++◌, ap, ◌∙◌}
use Rattle.dp_step.proofs.TurnSteps.{last-set}
use Rattle.dp_step.proofs.turns.put_last.Goals as goal

pub returns-in-Some : goal.returns-in-Some
returns-in-Some c = λ below before e.
    let p = c.args.pending.now in
    last-set p.items below _ p.len e p.ok.0 _ ∙ ap (λ w. below ++ w ∷ []) c.put_item.ensures
