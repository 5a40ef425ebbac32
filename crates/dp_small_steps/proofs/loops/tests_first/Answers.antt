use Rattle.std.proofs.Common.{sym, ◌∙◌}
use Rattle.dp_small_steps.proofs.TurnLaws.{test-alone, tests-by}
use Rattle.dp_small_steps.proofs.loops.tests_first.Goals as goal

pub returns-in-While : goal.returns-in-While
returns-in-While c = λ setting k s.
    rw c.evaluated.ensures (sym (test-alone setting k s c.args.turns c.args.left _)
    ∙ tests-by setting k s c.args.turns c.args.left _ c.in-While.is)

pub returns-in-For : goal.returns-in-For
returns-in-For c =
    λ setting k s. c.values_first.ensures setting k s ∙ tests-by setting k s c.args.turns c.args.left _ c.in-For.is
