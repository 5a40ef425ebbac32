use Rattle.std.proofs.Common.{refl}
use Rattle.std.proofs.lemmas.Result.{IfOk-weaker}
use Rattle.dp_step.proofs.Ends.{came-ended, come-leaves, end-stays, over-left}
use Rattle.dp_step.proofs.MachineSteps.{ends-with, goes-on}
use Rattle.dp_step.proofs.machine.Machine.next_moment.Goals as goal

pub returns-in-Ok-Moment-clause-goes_on : goal.returns-in-Ok-Moment-clause-goes_on
returns-in-Ok-Moment-clause-goes_on c = λ bundle bound writes n stands.
    IfOk-weaker c.come.result _ _ (λ progress came. goes-on bundle bound writes n c.args.self.now c.advance.new.self
    c.come.new.self stands _ _ (rw c.in-Ok-Moment.field-0-is at c.in-Ok-Moment.ensures) progress came)
    c.come.ensures

pub returns-in-Ok-Moment-clause-ends : goal.returns-in-Ok-Moment-clause-ends
returns-in-Ok-Moment-clause-ends c = come-leaves _ _ _ _ c.come.result c.come.ensures

pub returns-in-Ok-Moment-clause-stays : goal.returns-in-Ok-Moment-clause-stays
returns-in-Ok-Moment-clause-stays c = λ o ended. absurd (came-ended o c.args.self.now c.advance.new.self _ _ ended
    (rw c.in-Ok-Moment.field-0-is at c.in-Ok-Moment.ensures))

pub returns-in-Ok-End-clause-goes_on : goal.returns-in-Ok-End-clause-goes_on
returns-in-Ok-End-clause-goes_on c = λ bundle bound writes n stands.
    ends-with bundle bound writes n c.args.self.now c.advance.new.self c.advance.new.self stands _
    (rw c.in-Ok-End.field-0-is at c.in-Ok-End.ensures) refl

pub returns-in-Ok-End-clause-ends : goal.returns-in-Ok-End-clause-ends
returns-in-Ok-End-clause-ends c = over-left _ _ c.put_hand.ensures

pub returns-in-Ok-End-clause-stays : goal.returns-in-Ok-End-clause-stays
returns-in-Ok-End-clause-stays c = λ o ended. end-stays o c.args.self.now c.advance.new.self _ ended
    (rw c.in-Ok-End.field-0-is at c.in-Ok-End.ensures)
