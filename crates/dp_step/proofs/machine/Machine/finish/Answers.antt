use Rattle.std.proofs.Common.{refl, ◌∙◌}
use Rattle.dp_step.specs.Stands.{rest_of}
use Rattle.dp_step.proofs.Ends.{over-left}
use Rattle.dp_step.proofs.LeapLaws.{leap-on, leap-out}
use Rattle.dp_step.proofs.machine.Machine.finish.Goals as goal

pub loop-init : goal.loop-init
loop-init c = record { same = refl; same_bound = refl }

pub loop-preserved : goal.loop-preserved
loop-preserved c =
    let leaps = rw c.in-None.is at c.in_ok-leap.ensures in record {
      same = leap-on c.args.self.now c.loop.self c.leap.new.self
          (rest_of c.args.self.now c.args.self.now.state) c.loop.invariant.same
          c.loop.invariant.same_bound leaps;
      same_bound = leaps.same_bound ∙ c.loop.invariant.same_bound;
    }

pub returns-in-Some-clause-runs : goal.returns-in-Some-clause-runs
returns-in-Some-clause-runs c =
    leap-out c.args.self.now c.loop.self c.leap.new.self (rest_of c.args.self.now c.args.self.now.state)
    c.loop.invariant.same c.loop.invariant.same_bound c.in-Some.outcome (rw c.in-Some.is at c.in_ok-leap.ensures)

pub returns-in-Some-clause-ends : goal.returns-in-Some-clause-ends
returns-in-Some-clause-ends c = over-left _ _ c.put_hand.ensures
