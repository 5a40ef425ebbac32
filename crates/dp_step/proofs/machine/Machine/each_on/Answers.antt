use Rattle.std.proofs.Common.{true, refl, ◌∙◌, arith}
use Rattle.std.proofs.Math.ListN.{drop_of_length-le}
use Rattle.dp_actions.specs.Loops.{entries}
use Rattle.dp_step.proofs.Smalls.{moves_as}
use Rattle.dp_step.proofs.TurnSteps.{each-come, each-none, go-on, last-off, off-is, on-is}
use Rattle.dp_step.proofs.machine.Machine.each_on.Goals as goal

pub returns-then-at-count : goal.returns-then-at-count
returns-then-at-count c =
    let m = c.args.self.now in
    let subject = c.requires.0 in
    let below = c.requires.2.0 in
    let e = c.requires.2.1 in
    let popped = c.pop.ensures.rest ∙ last-off m.pending.items below _ m.pending.len e m.pending.ok.0 in
    moves_as m _ _ _ _ _ (on-is m below m.state m.pending.items _ e
    ∙ each-none m below m.state c.args.turns subject c.args.at c.args.due (drop_of_length-le (entries subject)
    (omega (arith, c.if-at-count.true, c.requires.1)))
    ∙ off-is m below m.state _ popped go-on) refl refl c.next.ensures

pub returns-then-due : goal.returns-then-due
returns-then-due c =
    let m = c.args.self.now in
    let subject = c.requires.0 in
    let below = c.requires.2.0 in
    let e = rw c.if-due.true at c.requires.2.1 in
    moves_as m m _ _ _ _ (on-is m below m.state m.pending.items _ e) refl refl
    (c.entry.ensures below subject (omega (arith, c.if-at-count.false, c.requires.1)) e)

pub returns-else-due : goal.returns-else-due
returns-else-due c =
    let m = c.args.self.now in
    let subject = c.requires.0 in
    let below = c.requires.2.0 in
    let e = rw c.if-due.false at c.requires.2.1 in
    moves_as m _ _ _ _ _ (on-is m below m.state m.pending.items _ e
    ∙ each-come m below m.state c.args.turns subject c.args.at (omega (arith, c.if-at-count.false, c.requires.1)) _
    (c.put_entry.ensures below c.args.turns subject c.args.at _ e)) refl refl c.placed.ensures
