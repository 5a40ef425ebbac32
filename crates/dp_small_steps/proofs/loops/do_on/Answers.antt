use Rattle.std.proofs.Common.{sym}
use Rattle.dp_actions.proofs.Runs.{and_then-assoc}
use Rattle.dp_small_steps.proofs.loops.do_on.Goals as goal

pub returns-then-due : goal.returns-then-due
returns-then-due c =
    λ setting k s. rw (c.if-due.true, c.unplaced.ensures, c.evaluated.ensures) (sym (and_then-assoc _ _ _))

pub returns-else-due : goal.returns-else-due
returns-else-due c = λ setting k s. rw c.if-due.false (c.do_over.ensures setting k s)
