use Rattle.std.proofs.Common.{refl}
use Rattle.std.proofs.lemmas.Result.{IfOk-weaker}
use Rattle.dp_step.proofs.LeapLaws.{leaps_put}
use Rattle.dp_step.proofs.machine.Machine.other.Goals as goal

pub returns : goal.returns
returns c =
    IfOk-weaker c.onward.result _ _ (λ end leaps. leaps_put c.args.self.now _ c.onward.new.self c.args.hand end
    refl refl refl c.put_hand.ensures refl refl leaps)
    c.onward.ensures
