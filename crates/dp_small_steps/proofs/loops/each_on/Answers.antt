use Rattle.dp_small_steps.proofs.loops.each_on.Goals as goal

pub returns-then-due : goal.returns-then-due
returns-then-due c = λ setting k s. rw (c.if-due.true, c.unplaced.ensures) (c.due_entry.ensures setting k s)

pub returns-else-due : goal.returns-else-due
returns-else-due c = λ setting k s. rw c.if-due.false (c.each_over.ensures setting k s)
