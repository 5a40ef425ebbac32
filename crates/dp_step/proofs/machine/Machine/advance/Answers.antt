use Rattle.std.proofs.Common.{subst, sym, ◌∙◌}
use Rattle.dp_state.specs.declared.moments.Outcome.TheVariants as way
use Rattle.dp_step.specs.declared.machine.Arrival.TheVariants as arrival
use Rattle.dp_step.specs.inner.Moves.{ArrivesBy}
use Rattle.dp_step.proofs.Smalls.{done-is, over-is}
use Rattle.dp_step.proofs.machine.Machine.advance.Goals as goal

pub loop-preserved : goal.loop-preserved
loop-preserved c =
    let m = rw c.in-On.is at c.go.ensures in record {
      rest = c.loop.invariant.rest ∙ m.by;
      same_bundle = m.same_bundle ∙ c.loop.invariant.same_bundle;
      same_bound = m.same_bound ∙ c.loop.invariant.same_bound;
    }

pub returns-in-Moment : goal.returns-in-Moment
returns-in-Moment c =
    let m = rw c.in-Moment.is at c.go.ensures in record {
      by = subst (λ r. ArrivesBy r (arrival.Moment c.in-Moment.kind c.in-Moment.line) c.go.new.self)
          (sym c.loop.invariant.rest) m.by;
      same_bundle = m.same_bundle ∙ c.loop.invariant.same_bundle;
      same_bound = m.same_bound ∙ c.loop.invariant.same_bound;
    }

pub returns-in-Done : goal.returns-in-Done
returns-in-Done c =
    let m = rw c.in-Done.is at c.go.ensures in record {
      by = subst (λ r. ArrivesBy r (arrival.End way.Done) c.go.new.self) (sym c.loop.invariant.rest)
          (done-is _ c.go.new.self m.by);
      same_bundle = m.same_bundle ∙ c.loop.invariant.same_bundle;
      same_bound = m.same_bound ∙ c.loop.invariant.same_bound;
    }

pub returns-in-Over : goal.returns-in-Over
returns-in-Over c =
    let m = rw c.in-Over.is at c.go.ensures in record {
      by = subst (λ r. ArrivesBy r (arrival.End c.in-Over.outcome) c.go.new.self) (sym c.loop.invariant.rest)
          (over-is _ _ _ m.by);
      same_bundle = m.same_bundle ∙ c.loop.invariant.same_bundle;
      same_bound = m.same_bound ∙ c.loop.invariant.same_bound;
    }
