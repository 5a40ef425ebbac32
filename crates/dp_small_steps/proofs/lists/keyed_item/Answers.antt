use Rattle.std.proofs.Common.{refl, sym}
use Rattle.std.proofs.Math.ListN.{drop_of_length-le}
use Rattle.dp_small_steps.proofs.FirstParts.{from-member}
use Rattle.dp_actions.proofs.Runs.{and_then-assoc}
use Rattle.dp_small_steps.proofs.lists.keyed_item.Goals as goal

pub returns-in-None : goal.returns-in-None
returns-in-None c = λ setting k s.
    let read = rw c.as_slice.ensures at c.in-None.ensures.lookup in
    rw (drop_of_length-le _ read.3, c.give.ensures) refl

pub returns-in-Some : goal.returns-in-Some
returns-in-Some c = λ setting k s.
    let read = rw c.as_slice.ensures at c.in-Some.ensures.lookup in
    rw (from-member _ _ _ read.3.0 read.1) (sym (and_then-assoc _ _ _))
