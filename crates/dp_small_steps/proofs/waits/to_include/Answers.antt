use Rattle.dp_small_steps.proofs.OtherKinds.{passes-to_include}
use Rattle.dp_small_steps.proofs.waits.to_include.Goals as goal

pub returns-in-Value : goal.returns-in-Value
returns-in-Value c = λ setting same. rw c.in-Value.is (c.include.ensures setting same)

pub returns-in_default : goal.returns-in_default
returns-in_default c = λ setting same. record {
  by = λ k. rw c.passed_on.ensures
      (passes-to_include setting c.args.how k c.args.given c.args.state.now c.in_default.not-Value);
}
