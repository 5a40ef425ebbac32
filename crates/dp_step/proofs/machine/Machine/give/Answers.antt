use Rattle.std.proofs.lemmas.Result.{IfOk-weaker}
use Rattle.dp_step.proofs.ApartLaws.{gives-as, gives-done, gives-none, gives-on}
use Rattle.dp_step.proofs.machine.Machine.give.Goals as goal

pub returns-in-On : goal.returns-in-On
returns-in-On c =
    let moves = rw c.in-On.is at c.go.ensures in gives-on c.args.self.now c.go.new.self _ moves.same_bound moves.by

pub returns-in-Moment : goal.returns-in-Moment
returns-in-Moment c =
    let moves = rw c.in-Moment.is at c.go.ensures in
    IfOk-weaker c.pass_moment.result _ _ (λ end gives. gives-as c.args.self.now c.go.new.self c.pass_moment.new.self _ _
    end moves.by moves.same_bound gives) c.pass_moment.ensures

pub returns-in-Done : goal.returns-in-Done
returns-in-Done c =
    let moves = rw c.in-Done.is at c.go.ensures in
    gives-done c.args.self.now c.go.new.self c.take_value.new.self _ _ moves.same_bound moves.by
    c.take_value.ensures.value c.take_value.ensures.kept

pub returns-in-Over : goal.returns-in-Over
returns-in-Over c =
    let moves = rw c.in-Over.is at c.go.ensures in
    gives-none c.args.self.now c.go.new.self _ moves.same_bound _ moves.by
