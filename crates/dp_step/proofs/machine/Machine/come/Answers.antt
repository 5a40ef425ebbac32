use Rattle.std.proofs.Common.{refl, ap, ◌∙◌, arith}
use Rattle.dp_state.specs.States.{counted}
use Rattle.dp_meaning.specs.Trace.{moment_of}
use Rattle.dp_step.specs.Stands.{rest_of}
use Rattle.dp_step.proofs.Ends.{over-left}
use Rattle.dp_step.proofs.machine.Machine.come.Goals as goal

pub returns-then-self : goal.returns-then-self
returns-then-self c =
    record {
      by = (omega (arith, c.if-self.true), refl, refl, over-left _ _ c.put_hand.ensures);
      same_bundle = refl;
      same_bound = refl;
    }

pub returns-in-Ok : goal.returns-in-Ok
unfolding rest_of
returns-in-Ok c =
    let is = c.count.ensures ∙ ap counted c.set_line.ensures in record {
      by = (omega (arith, c.if-self.false), c.in-Ok.ensures.moment ∙ ap (moment_of c.args.kind) is, is, λ s. refl);
      same_bundle = refl;
      same_bound = refl;
    }
