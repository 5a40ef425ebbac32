use Rattle.dp_small_steps.proofs.OtherKinds.{passes-to_after}
use Rattle.dp_small_steps.proofs.waits.to_after.Goals as goal

pub returns-in-Value : goal.returns-in-Value
returns-in-Value c = λ setting. rw c.in-Value.is (c.receive_after.ensures setting)

pub returns-in_default : goal.returns-in_default
returns-in_default c = λ setting. record {
  by = λ k. rw c.passed_on.ensures
      (passes-to_after setting c.args.work k c.args.given c.args.state.now c.in_default.not-Value);
}
