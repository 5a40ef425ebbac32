use Rattle.dp_step.proofs.WriteLaws.{write-stands}
use Rattle.dp_step.proofs.machine.Machine.write.Goals as goal

pub returns-then-has_failed-clause-written : goal.returns-then-has_failed-clause-written
returns-then-has_failed-clause-written c = c.has_failed.ensures.failed c.if-has_failed.true

pub returns-else-has_failed-clause-stands : goal.returns-else-has_failed-clause-stands
returns-else-has_failed-clause-stands c =
    write-stands c.args.level c.args.context c.args.path.now c.args.value c.write_place.result c.args.self.now
    c.write_place.new.self c.write_place.ensures

pub returns-else-has_failed-clause-fails : goal.returns-else-has_failed-clause-fails
returns-else-has_failed-clause-fails c = λ failed.
    absurd (c.has_failed.ensures.not_failed c.if-has_failed.false failed)
