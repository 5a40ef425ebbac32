use Rattle.dp_step.proofs.ApartLaws.{moment-beyond, moment-passes}
use Rattle.dp_step.proofs.machine.Machine.pass_moment.Goals as goal

pub returns-in-At : goal.returns-in-At
returns-in-At c =
    moment-passes c.args.kind c.args.line c.args.self.now c.come.new.self c.in-At.moment
    (rw c.in-At.is at c.in_ok-moment.ensures)

pub returns-in-Ended : goal.returns-in-Ended
returns-in-Ended c =
    moment-beyond c.args.kind c.args.line c.args.self.now c.come.new.self _ (rw c.in-Ended.is at c.in_ok-moment.ensures)
