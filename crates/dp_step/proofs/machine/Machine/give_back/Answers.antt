use Rattle.std.proofs.Common.{refl, ◌∙◌}
use Rattle.dp_step.specs.Stands.{rest_of}
use Rattle.dp_step.proofs.ApartLaws.{way-back, way-on}
use Rattle.dp_step.proofs.machine.Machine.give_back.Goals as goal

pub loop-init : goal.loop-init
loop-init c = record { same = refl; same_bound = refl }

pub loop-preserved : goal.loop-preserved
loop-preserved c =
    let gives = rw c.in-None.is at c.in_ok-give.ensures in record {
      same = way-on c.args.self.now c.loop.self c.give.new.self (rest_of c.args.self.now c.args.self.now.state)
          c.loop.invariant.same c.loop.invariant.same_bound gives;
      same_bound = gives.same_bound ∙ c.loop.invariant.same_bound;
    }

pub returns-in-Some : goal.returns-in-Some
returns-in-Some c =
    way-back c.args.self.now c.loop.self c.give.new.self (rest_of c.args.self.now c.args.self.now.state)
    c.loop.invariant.same c.loop.invariant.same_bound c.in-Some.answer (rw c.in-Some.is at c.in_ok-give.ensures)
