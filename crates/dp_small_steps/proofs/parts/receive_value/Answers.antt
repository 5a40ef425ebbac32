use Rattle.std.proofs.Common.{sym}
use Rattle.dp_small_steps.proofs.parts.receive_value.Goals as goal

pub returns-in-Unary : goal.returns-in-Unary
returns-in-Unary c = λ setting. rw c.in-Unary.is (c.operate_alone.ensures setting)

pub returns-in-Coalesce : goal.returns-in-Coalesce
returns-in-Coalesce c = λ setting. record { by = λ k. rw c.in-Coalesce.is (sym (c.coalesce.ensures setting k _)) }

pub returns-in-Choose : goal.returns-in-Choose
returns-in-Choose c = λ setting. record { by = λ k. rw c.in-Choose.is (sym (c.choose.ensures setting k _)) }

pub returns-in-Assign : goal.returns-in-Assign
returns-in-Assign c = λ setting. rw c.in-Assign.is (c.assign.ensures setting)

pub returns-in-Combine : goal.returns-in-Combine
returns-in-Combine c = λ setting. rw c.in-Combine.is (c.combine_with.ensures setting)
