use Rattle.dp_small_steps.proofs.OtherKinds.{passes-to_values}
use Rattle.dp_small_steps.proofs.waits.to_values.Goals as goal

pub returns-in-Values : goal.returns-in-Values
returns-in-Values c = λ setting. rw c.in-Values.is (c.receive_values.ensures setting)

pub returns-in_default : goal.returns-in_default
returns-in_default c = λ setting. record {
  by = λ k. rw c.passed_on.ensures
      (passes-to_values setting c.args.work k c.args.given c.args.state.now c.in_default.not-Values);
}
