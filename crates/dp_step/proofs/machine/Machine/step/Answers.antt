use Rattle.dp_step.proofs.machine.Machine.step.Goals as goal

pub returns-then-has_failed-clause-leaves : goal.returns-then-has_failed-clause-leaves
returns-then-has_failed-clause-leaves g c = c.has_failed.ensures.failed c.if-has_failed.true

pub returns-in-Ok-clause-goes_on : goal.returns-in-Ok-clause-goes_on
returns-in-Ok-clause-goes_on g c = λ bundle bound writes n stands.
    rw c.in-Ok.is at c.next_moment.ensures.goes_on bundle bound writes n stands

pub returns-in-Ok-clause-leaves : goal.returns-in-Ok-clause-leaves
returns-in-Ok-clause-leaves g c = rw c.in-Ok.is at c.next_moment.ensures.ends

pub returns-in-Ok-clause-stays : goal.returns-in-Ok-clause-stays
returns-in-Ok-clause-stays g c = λ o ended. rw c.in-Ok.is at c.next_moment.ensures.stays o ended

pub returns-in-Ok-clause-fails : goal.returns-in-Ok-clause-fails
returns-in-Ok-clause-fails g c = λ failed. absurd (c.has_failed.ensures.not_failed c.if-has_failed.false failed)

pub returns-in-Err-clause-fails : goal.returns-in-Err-clause-fails
returns-in-Err-clause-fails g c = λ failed. absurd (c.has_failed.ensures.not_failed c.if-has_failed.false failed)
