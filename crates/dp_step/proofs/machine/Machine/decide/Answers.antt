use Rattle.std.proofs.Common.{false, true, refl, sym, ◌∙◌}
use Rattle.dp_small_steps.specs.declared.work.ForSignal.TheVariants as signal_work
use Rattle.dp_small_steps.specs.declared.work.Hand.TheVariants as hand
use Rattle.dp_step.proofs.Smalls.{moves_as}
use Rattle.dp_step.proofs.TurnSteps.{decided-off, decided-on, go-on, last-off, off-is, with-is}
use Rattle.dp_step.proofs.machine.Machine.decide.Goals as goal

pub returns-then-held : goal.returns-then-held
returns-then-held c = λ below e.
    let m = c.args.self.now in
    moves_as m _ _ _ _ _ (decided-on m below m.state c.args.turns c.args.left c.args.held c.if-held.true
    ∙ rw c.as_ref.ensures refl
    ∙ sym (with-is m below m.state _ (signal_work.Body c.args.turns c.args.left false)
    (c.put_last.ensures below _ e)
    (hand.Run c.as_ref.result))) refl refl c.put.ensures

pub returns-else-held : goal.returns-else-held
returns-else-held c = λ below e.
    let m = c.args.self.now in
    let popped = c.pop.ensures.rest ∙ last-off m.pending.items below _ m.pending.len e m.pending.ok.0 in
    moves_as m _ _ _ _ _ (decided-off m below m.state c.args.turns c.args.left c.args.held c.if-held.false
    ∙ off-is m below m.state _ popped go-on) refl refl c.next.ensures
