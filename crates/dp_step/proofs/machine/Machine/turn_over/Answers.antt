use Rattle.std.proofs.Common.{refl, sym, ◌∙◌}
use Rattle.dp_actions.specs.Run.{and_then}
use Rattle.dp_small_steps.proofs.TurnLaws.{next-by}
use Rattle.dp_step.specs.inner.Moves.{setting_at}
use Rattle.dp_step.specs.inner.Innermost.{over}
use Rattle.dp_step.proofs.Smalls.{moves_as}
use Rattle.dp_step.proofs.TurnSteps.{on-is}
use Rattle.dp_step.proofs.machine.Machine.turn_over.Goals as goal

pub returns-in-While : goal.returns-in-While
unfolding and_then
returns-in-While c =
    let m = c.args.self.now in
    let below = c.requires.0 in
    moves_as m m _ _ _ _ (on-is m below m.state m.pending.items _ c.requires.1
    ∙ sym (next-by (setting_at m) (over m below) m.state c.args.turns c.args.left _ c.in-While.is)) refl refl
    (c.turn.ensures below c.requires.1)

pub returns-then-all_momentless : goal.returns-then-all_momentless
returns-then-all_momentless c =
    let m = c.args.self.now in
    let below = c.requires.0 in
    moves_as m m _ _ _ _ (on-is m below m.state m.pending.items _ c.requires.1
    ∙ sym (next-by (setting_at m) (over m below) m.state c.args.turns c.args.left _ c.in-For.is)) refl refl
    (c.after.ensures below c.requires.1)
