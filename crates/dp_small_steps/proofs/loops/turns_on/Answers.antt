use Rattle.std.proofs.Common.{◌∙◌}
use Rattle.dp_actions.specs.Run.{and_then}
use Rattle.dp_small_steps.proofs.TurnLaws.{next-by}
use Rattle.dp_small_steps.proofs.loops.turns_on.Goals as goal

pub returns-in-While : goal.returns-in-While
unfolding and_then
returns-in-While c = λ setting k s. rw c.alone.ensures (next-by setting k s c.args.turns c.args.left _ c.in-While.is)

pub returns-in-For : goal.returns-in-For
returns-in-For c =
    λ setting k s. c.values_first.ensures setting k s ∙ next-by setting k s c.args.turns c.args.left _ c.in-For.is
