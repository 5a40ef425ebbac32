use Rattle.dp_actions.proofs.integers.step_variable.Goals as goal

pub returns-in-Some : goal.returns-in-Some
returns-in-Some c = λ order. record { leaves = c.in-Some.ensures.some order }

pub returns-in-None : goal.returns-in-None
returns-in-None c = λ order. rw (c.added.ensures.none c.in-None.is) at (c.put_step.ensures order)
