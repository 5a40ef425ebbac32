use Rattle.std.proofs.Common.{sym, ◌∙◌}
use Rattle.dp_actions.proofs.Runs.{and_then-assoc}
use Rattle.dp_small_steps.proofs.loops.turn_on.Goals as goal

pub returns-then-due : goal.returns-then-due
returns-then-due c = λ setting k s.
    rw (c.if-due.true, c.unplaced.ensures) (c.tests_first.ensures setting k s ∙ sym (and_then-assoc _ _ _))

pub returns-else-due : goal.returns-else-due
returns-else-due c = λ setting k s. rw c.if-due.false (c.body_over.ensures setting k s)
