use Rattle.std.proofs.Common.{refl}
use Rattle.std.proofs.lemmas.Result.{IfOk-weaker}
use Rattle.dp_step.specs.declared.machine.Arrival.TheVariants as arrival
use Rattle.dp_step.proofs.Ends.{come-leaves, over-left}
use Rattle.dp_step.proofs.machine.Machine.past.Goals as goal

pub returns-in-Ok-Moment-clause-gets : goal.returns-in-Ok-Moment-clause-gets
returns-in-Ok-Moment-clause-gets c = λ are_loud.
    IfOk-weaker c.come.result _ _ (λ progress came. record {
      mid = c.approach.new.self;
      arrival = arrival.Moment c.in-Ok-Moment.kind c.in-Ok-Moment.line;
      approaches = rw c.in-Ok-Moment.field-0-is at (c.in-Ok-Moment.ensures are_loud);
      comes = came;
    })
    c.come.ensures

pub returns-in-Ok-Moment-clause-ends : goal.returns-in-Ok-Moment-clause-ends
returns-in-Ok-Moment-clause-ends c = come-leaves _ _ _ _ c.come.result c.come.ensures

pub returns-in-Ok-End-clause-gets : goal.returns-in-Ok-End-clause-gets
returns-in-Ok-End-clause-gets c = λ are_loud. record {
  mid = c.approach.new.self;
  arrival = arrival.End c.in-Ok-End.outcome;
  approaches = rw c.in-Ok-End.field-0-is at (c.in-Ok-End.ensures are_loud);
  comes = (refl, refl);
}

pub returns-in-Ok-End-clause-ends : goal.returns-in-Ok-End-clause-ends
returns-in-Ok-End-clause-ends c = over-left _ _ c.put_hand.ensures
