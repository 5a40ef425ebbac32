use Rattle.std.proofs.Common.{sym}
use Rattle.dp_small_steps.proofs.Begins as begins
use Rattle.dp_small_steps.proofs.expressions.begin_operator.Goals as goal

pub returns-in-Index : goal.returns-in-Index
returns-in-Index c = λ setting k s. rw (c.in-Index.is, c.as_ref.ensures) (sym (begins.begins-Index setting k s _ _))

pub returns-in-Unary : goal.returns-in-Unary
returns-in-Unary c =
    λ setting k s. rw (c.in-Unary.is, c.as_ref-in-Unary.ensures) (sym (begins.begins-Unary setting k s _ _))

pub returns-in-Chain : goal.returns-in-Chain
returns-in-Chain c =
    λ setting k s. rw (c.in-Chain.is, c.as_ref-in-Chain.ensures) (sym (begins.begins-Chain setting k s _ _))

pub returns-in-Coalesce : goal.returns-in-Coalesce
returns-in-Coalesce c = λ setting k s. rw c.in-Coalesce.is (sym (begins.begins-Coalesce setting k s _ _))

pub returns-in-Conditional : goal.returns-in-Conditional
returns-in-Conditional c =
    λ setting k s. rw (c.in-Conditional.is, c.as_ref-in-Conditional.ensures)
    (sym (begins.begins-Conditional setting k s _ _ _))

pub returns-in_default : goal.returns-in_default
returns-in_default c = λ setting k s. c.begin_change.ensures setting k s
