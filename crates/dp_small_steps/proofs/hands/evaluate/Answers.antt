use Rattle.dp_small_steps.proofs.CallLaws.{begins-Include, by_call}
use Rattle.dp_small_steps.proofs.hands.evaluate.Goals as goal

pub returns-in-Call : goal.returns-in-Call
returns-in-Call c = λ setting same.
    rw c.in-Call.is (by_call setting c.args.state.now _ _ _ _ (c.begin_call.ensures setting same))

pub returns-in-Include : goal.returns-in-Include
returns-in-Include c = λ setting same. record {
  by = λ k. rw (c.in-Include.is, c.as_ref.ensures) (begins-Include setting k c.args.state.now _ _);
}

pub returns-in_default : goal.returns-in_default
returns-in_default c = λ setting same. c.begin_expression.ensures setting
