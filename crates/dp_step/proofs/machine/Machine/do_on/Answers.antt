use Rattle.std.proofs.Common.{refl, ◌∙◌}
use Rattle.dp_step.proofs.Smalls.{moves_as}
use Rattle.dp_step.proofs.TurnSteps.{do-come, on-is}
use Rattle.dp_step.proofs.machine.Machine.do_on.Goals as goal

pub returns-else-due : goal.returns-else-due
returns-else-due c =
    let m = c.args.self.now in
    let below = c.requires.0 in
    let e = rw c.if-due.false at c.requires.1 in
    moves_as m _ _ _ _ _ (on-is m below m.state m.pending.items _ e
    ∙ do-come m below m.state c.args.turns c.args.left _ (c.put_last.ensures below _ e))
    refl refl c.placed.ensures
