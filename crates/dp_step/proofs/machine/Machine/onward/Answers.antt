use Rattle.dp_step.proofs.LeapLaws.{moment-on, moment-over, small-on, small-over}
use Rattle.dp_step.proofs.Smalls.{done-is, over-is}
use Rattle.dp_step.proofs.machine.Machine.onward.Goals as goal

pub returns-in-On : goal.returns-in-On
returns-in-On c = small-on _ c.go_to_turns.new.self _ (rw c.in-On.is at c.go_to_turns.ensures)

pub returns-in-At : goal.returns-in-At
returns-in-At c =
    moment-on _ c.go_to_turns.new.self _ _ _ c.come.new.self (rw c.in-Moment.is at c.go_to_turns.ensures)
    c.in-At.moment (rw c.in-At.is at c.in_ok-moment-in-Moment.ensures)

pub returns-in-Ended : goal.returns-in-Ended
returns-in-Ended c =
    moment-over _ c.go_to_turns.new.self _ _ _ c.come.new.self (rw c.in-Moment.is at c.go_to_turns.ensures)
    c.in-Ended.outcome (rw c.in-Ended.is at c.in_ok-moment-in-Moment.ensures)

pub returns-in-Done : goal.returns-in-Done
returns-in-Done c =
    let moves = rw c.in-Done.is at c.go_to_turns.ensures in
    small-over _ c.go_to_turns.new.self _ _ (done-is _ c.go_to_turns.new.self moves.by) moves.same_bound

pub returns-in-Over : goal.returns-in-Over
returns-in-Over c =
    let moves = rw c.in-Over.is at c.go_to_turns.ensures in
    small-over _ c.go_to_turns.new.self _ c.in-Over.outcome (over-is _ _ _ moves.by) moves.same_bound
