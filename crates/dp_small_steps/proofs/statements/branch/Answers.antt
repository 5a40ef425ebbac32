use Rattle.std.proofs.Common.{refl}
use Rattle.std.proofs.Math.ListN.{drop_of_length-le}
use Rattle.dp_actions.specs.Run.{and_then}
use Rattle.dp_small_steps.proofs.FirstParts.{from-member}
use Rattle.dp_small_steps.proofs.statements.branch.Goals as goal

pub returns-in-None : goal.returns-in-None
unfolding and_then
returns-in-None c = λ setting k s.
    let read = rw c.as_slice.ensures at c.in-None.ensures.lookup in
    rw (drop_of_length-le _ read.3, c.signal.ensures) refl

pub returns-then-holds : goal.returns-then-holds
returns-then-holds c = λ setting k s.
    let read = rw c.as_slice.ensures at c.in-Some.ensures.lookup in
    rw (from-member _ _ _ read.3.0 read.1, c.if-holds.true, c.alone.ensures) refl

pub returns-else-holds : goal.returns-else-holds
returns-else-holds c = λ setting k s.
    let read = rw c.as_slice.ensures at c.in-Some.ensures.lookup in
    rw (from-member _ _ _ read.3.0 read.1, c.if-holds.false, c.alone-else-holds.ensures) refl
