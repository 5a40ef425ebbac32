use Rattle.dp_small_steps.proofs.MomentSteps.{goes_as}
use Rattle.dp_small_steps.proofs.waits.receive.Goals as goal

pub returns-in-ForPart : goal.returns-in-ForPart
returns-in-ForPart c = λ setting same.
    rw c.in-ForPart.is (c.moved.ensures setting _ _ (c.to_part.ensures setting))

pub returns-in-ForValue : goal.returns-in-ForValue
returns-in-ForValue c = λ setting same.
    rw c.in-ForValue.is (c.moved-in-ForValue.ensures setting _ _ (c.to_value.ensures setting))

pub returns-in-ForValues : goal.returns-in-ForValues
returns-in-ForValues c = λ setting same.
    rw c.in-ForValues.is (c.moved-in-ForValues.ensures setting _ _ (c.to_values.ensures setting))

pub returns-in-Include : goal.returns-in-Include
returns-in-Include c = λ setting same.
    rw c.in-Include.is (c.moved-in-Include.ensures setting _ _ (c.to_include.ensures setting same))

pub returns-in-AfterValue : goal.returns-in-AfterValue
returns-in-AfterValue c = λ setting same.
    rw c.in-AfterValue.is (c.moved-in-AfterValue.ensures setting _ _ (c.to_after.ensures setting))

pub returns-in-AfterValues : goal.returns-in-AfterValues
returns-in-AfterValues c = λ setting same.
    rw c.in-AfterValues.is (c.moved-in-AfterValues.ensures setting _ _ (c.to_after_values.ensures setting))

pub returns-in-ForSignal : goal.returns-in-ForSignal
returns-in-ForSignal c = λ setting same.
    rw c.in-ForSignal.is (goes_as setting _ _ _ (λ k. c.to_signal.ensures setting k c.args.state.now))
