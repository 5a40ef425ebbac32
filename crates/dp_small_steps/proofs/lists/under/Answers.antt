use Rattle.std.proofs.Common.{refl}
use Rattle.std.proofs.Math.ListN.{drop_of_length-le}
use Rattle.dp_actions.specs.Run.{and_then}
use Rattle.dp_small_steps.proofs.FirstParts.{from-member}
use Rattle.dp_actions.specs.InPlace.{entries_by}
use Rattle.dp_small_steps.proofs.FirstParts.{indices-first}
use Rattle.dp_small_steps.proofs.lists.under.Goals as goal

pub returns-in-None : goal.returns-in-None
unfolding and_then
returns-in-None c = λ setting s.
    let read = rw c.as_slice.ensures at c.in-None.ensures.lookup in
    record { by = λ k. rw (drop_of_length-le _ read.3, c.give.ensures) refl }

pub returns-in-Some : goal.returns-in-Some
returns-in-Some c = λ setting s.
    let read = rw c.as_slice.ensures at c.in-Some.ensures.lookup in
    record {
      by = λ k. rw (from-member _ _ _ read.3.0 read.1) (indices-first setting k s
          (entries_by c.args.how) _ _ c.args.value);
    }
