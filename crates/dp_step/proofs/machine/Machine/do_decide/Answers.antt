use Rattle.std.proofs.Common.{refl, ap, ◌∙◌}
use Rattle.dp_actions.specs.Run.{and_then}
use Rattle.dp_small_steps.specs.Parts.{to_signal}
use Rattle.dp_small_steps.specs.Rest.{do_decided}
use Rattle.dp_step.specs.inner.Moves.{setting_at}
use Rattle.dp_step.specs.inner.Innermost.{over}
use Rattle.dp_step.proofs.Smalls.{moves_as}
use Rattle.dp_step.proofs.TurnSteps.{do-off, go-on, last-off, off-is}
use Rattle.dp_step.proofs.machine.Machine.do_decide.Goals as goal

pub returns-then-held : goal.returns-then-held
returns-then-held c = λ below e.
    let m = c.args.self.now in
    moves_as m m _ _ _ _ (ap (λ b. and_then (do_decided (setting_at m) c.args.turns c.args.left b m.state) (to_signal
    (over m below))) c.if-held.true) refl refl (c.do_turn.ensures below e)

pub returns-else-held : goal.returns-else-held
returns-else-held c = λ below e.
    let m = c.args.self.now in
    let popped = c.pop.ensures.rest ∙ last-off m.pending.items below _ m.pending.len e m.pending.ok.0 in
    moves_as m _ _ _ _ _ (do-off m below m.state c.args.turns c.args.left c.args.held c.if-held.false
    ∙ off-is m below m.state _ popped go-on) refl refl c.next.ensures
