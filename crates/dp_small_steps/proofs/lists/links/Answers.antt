use Rattle.std.proofs.Common.{refl, sym, ◌∙◌}
use Rattle.std.proofs.Math.ListN.{drop_of_length-le}
use Rattle.dp_actions.specs.Run.{and_then}
use Rattle.dp_small_steps.proofs.FirstParts.{from-member}
use Rattle.dp_small_steps.proofs.FirstParts.{links-first}
use Rattle.dp_small_steps.proofs.lists.links.Goals as goal

pub returns-in-None : goal.returns-in-None
unfolding and_then
returns-in-None c = λ setting k s.
    let read = rw c.as_slice.ensures at c.in-None.ensures.lookup in
    rw (drop_of_length-le _ read.3, c.give.ensures) refl

pub returns-in-Some : goal.returns-in-Some
returns-in-Some c = λ setting k s.
    let read = rw c.as_slice.ensures at c.in-Some.ensures.lookup in
    rw (from-member _ _ _ read.3.0 read.1) (c.link.ensures setting k s ∙ sym (links-first setting k s _ _ c.args.left))
