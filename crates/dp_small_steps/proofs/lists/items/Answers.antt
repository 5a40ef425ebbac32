use Rattle.std.proofs.Common.{refl, sym, ◌∙◌}
use Rattle.std.proofs.Math.ListN.{drop_of_length-le}
use Rattle.dp_actions.specs.Run.{and_then}
use Rattle.dp_small_steps.proofs.FirstParts.{from-member, keyed-first}
use Rattle.dp_small_steps.proofs.FirstParts.{items-first, item-plain}
use Rattle.dp_small_steps.proofs.lists.items.Goals as goal

pub returns-in-None : goal.returns-in-None
unfolding and_then
returns-in-None c = λ setting k s.
    let read = rw c.as_slice.ensures at c.in-None.ensures.lookup in
    rw (drop_of_length-le _ read.3, c.give.ensures) refl

pub returns-in-None-key : goal.returns-in-None-key
returns-in-None-key c = λ setting k s.
    let read = rw c.as_slice.ensures at c.in-Some.ensures.lookup in
    rw (from-member _ _ _ read.3.0 read.1) (sym (items-first setting k s _ _ c.args.array
    ∙ item-plain setting k s _ c.in-Some.first.now c.args.array c.in-None-key.is))

pub returns-in-Some-key : goal.returns-in-Some-key
returns-in-Some-key c = λ setting k s.
    let read = rw c.as_slice.ensures at c.in-Some.ensures.lookup in
    (keyed-first setting k s c.args.all.now c.args.at c.in-Some.first.now read.3.0 read.1 c.args.array _
    c.in-Some-key.is)
