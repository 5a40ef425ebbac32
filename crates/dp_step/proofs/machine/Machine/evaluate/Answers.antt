use Rattle.dp_step.proofs.WriteLaws.{evaluate-stands}
use Rattle.dp_step.proofs.machine.Machine.evaluate.Goals as goal

pub returns-then-has_failed-clause-evaluated : goal.returns-then-has_failed-clause-evaluated
returns-then-has_failed-clause-evaluated c = c.has_failed.ensures.failed c.if-has_failed.true

pub returns-else-has_failed-clause-stands : goal.returns-else-has_failed-clause-stands
returns-else-has_failed-clause-stands c =
    evaluate-stands c.args.e.now c.value_of.result c.args.self.now c.value_of.new.self c.value_of.ensures

pub returns-else-has_failed-clause-fails : goal.returns-else-has_failed-clause-fails
returns-else-has_failed-clause-fails c = λ failed.
    absurd (c.has_failed.ensures.not_failed c.if-has_failed.false failed)
