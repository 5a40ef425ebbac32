use Rattle.dp_step.proofs.Ends.{out-stays}
use Rattle.dp_step.proofs.LeapLaws.{counts-out, runs-out}
use Rattle.dp_step.proofs.machine.Machine.run_out.Goals as goal

pub returns-then-has_failed-clause-leaves : goal.returns-then-has_failed-clause-leaves
returns-then-has_failed-clause-leaves g c = c.has_failed.ensures.failed c.if-has_failed.true

pub returns-in-Ok-clause-end : goal.returns-in-Ok-clause-end
returns-in-Ok-clause-end g c = λ bundle bound writes n stands.
    runs-out bundle bound writes n c.args.self.now c.end.new.self stands _ c.in-Ok.ensures.runs

pub returns-in-Ok-clause-counted : goal.returns-in-Ok-clause-counted
returns-in-Ok-clause-counted g c = λ bundle bound writes n stands.
    counts-out bundle bound writes n c.args.self.now c.end.new.self stands _ c.in-Ok.ensures.runs _ _
    (rw c.risen.ensures at c.tick_all.ensures)

pub returns-in-Ok-clause-stays : goal.returns-in-Ok-clause-stays
returns-in-Ok-clause-stays g c = λ o ended.
    out-stays o c.args.self.now c.end.new.self c.in-Ok.outcome ended c.in-Ok.ensures.runs

pub returns-in-Ok-clause-fails : goal.returns-in-Ok-clause-fails
returns-in-Ok-clause-fails g c = λ failed. absurd (c.has_failed.ensures.not_failed c.if-has_failed.false failed)

pub returns-in-Err-clause-fails : goal.returns-in-Err-clause-fails
returns-in-Err-clause-fails g c = λ failed. absurd (c.has_failed.ensures.not_failed c.if-has_failed.false failed)
