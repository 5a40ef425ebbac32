use Rattle.dp_step.proofs.machine.Machine.write_all.Goals as goal

pub returns-then-has_failed-clause-leaves : goal.returns-then-has_failed-clause-leaves
returns-then-has_failed-clause-leaves c = c.has_failed.ensures.failed c.if-has_failed.true

pub returns-else-has_failed-clause-fails : goal.returns-else-has_failed-clause-fails
returns-else-has_failed-clause-fails c = λ failed.
    absurd (c.has_failed.ensures.not_failed c.if-has_failed.false failed)
