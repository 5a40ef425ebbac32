use Rattle.std.proofs.Common.{refl, sym, ◌+◌, ◌∙◌, arith}
use Rattle.std.proofs.Math.ListN.{drop_of_length-le}
use Rattle.dp_small_steps.proofs.FirstParts.{from-member}
use Rattle.dp_small_steps.specs.declared.work.ForSignal.TheVariants as signal_work
use Rattle.dp_small_steps.specs.declared.work.Hand.TheVariants as hand
use Rattle.dp_step.proofs.Smalls.{moves_as}
use Rattle.dp_step.proofs.TurnSteps.{go-on, last-off, off-is, on-is, rest-last, rest-more, rest-none, with-is}
use Rattle.dp_step.proofs.machine.Machine.rest.Goals as goal

pub returns-in-None : goal.returns-in-None
returns-in-None c =
    let m = c.args.self.now in
    let read = rw c.as_slice.ensures at c.in-None.ensures.lookup in
    let below = c.requires.0 in
    let popped = c.pop.ensures.rest ∙ last-off m.pending.items below _ m.pending.len c.requires.1 m.pending.ok.0 in
    moves_as m _ _ _ _ _ (on-is m below m.state m.pending.items _ c.requires.1
    ∙ rest-none m below m.state c.args.all.now c.args.at (drop_of_length-le _ read.3)
    ∙ off-is m below m.state _ popped go-on) refl refl c.next.ensures

pub returns-then-at-as_slice : goal.returns-then-at-as_slice
returns-then-at-as_slice c =
    let m = c.args.self.now in
    let read = rw c.as_slice.ensures at c.in-Some.ensures.lookup in
    let below = c.requires.0 in
    moves_as m _ _ _ _ _ (on-is m below m.state m.pending.items _ c.requires.1
    ∙ rest-more m below m.state c.args.all.now c.args.at _ (from-member _ _ _ read.3.0 read.1)
    ∙ sym (with-is m below m.state _ (signal_work.Rest c.args.all (c.args.at + 1))
    (c.put_last.ensures below _ c.requires.1)
    (hand.Run c.in-Some.first))) refl refl c.put.ensures

pub returns-else-at-as_slice : goal.returns-else-at-as_slice
returns-else-at-as_slice c =
    let m = c.args.self.now in
    let read = rw c.as_slice.ensures at c.in-Some.ensures.lookup in
    let below = c.requires.0 in
    let short = rw c.as_slice-in-Some.ensures at c.if-at-as_slice.false in
    let popped = c.pop-else-at-as_slice.ensures.rest
    ∙ last-off m.pending.items below _ m.pending.len c.requires.1 m.pending.ok.0 in
    moves_as m _ _ _ _ _ (on-is m below m.state m.pending.items _ c.requires.1
    ∙ rest-last m below m.state c.args.all.now c.args.at _ (from-member _ _ _ read.3.0 read.1)
    (drop_of_length-le c.args.all.now {i = c.args.at + 1}
    (omega (arith, short)))
    ∙ off-is m below m.state _ popped (hand.Run c.in-Some.first)) refl refl c.put-else-at-as_slice.ensures
