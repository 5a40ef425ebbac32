use Rattle.std.proofs.Common.{sym}
use Rattle.std.proofs.Math.ListN.{drop_of_length-le}
use Rattle.dp_small_steps.proofs.FirstParts.{from-member}
use Rattle.dp_small_steps.proofs.FirstParts.{values-first, values-none}
use Rattle.dp_small_steps.proofs.lists.values.Goals as goal

pub returns-in-None : goal.returns-in-None
returns-in-None c = λ setting k s.
    let read = rw c.as_slice.ensures at c.in-None.ensures.lookup in
    rw (drop_of_length-le _ read.3, c.alone.ensures) (sym (values-none setting k s c.args.before))

pub returns-in-Some : goal.returns-in-Some
returns-in-Some c = λ setting k s.
    let read = rw c.as_slice.ensures at c.in-Some.ensures.lookup in
    rw (from-member _ _ _ read.3.0 read.1) (sym (values-first setting k s _ _ c.args.before))
