use Rattle.std.proofs.Common.{refl}
use Rattle.dp_actions.specs.Run.{and_then}
use Rattle.dp_step.proofs.Smalls.{moves_as}
use Rattle.dp_step.proofs.machine.Machine.without_arm.Goals as goal

pub returns-in-None : goal.returns-in-None
unfolding and_then
returns-in-None c =
    let m = c.args.self.now in
    moves_as m m _ _ _ _ (rw c.in-None.is refl) refl refl c.on.ensures

pub returns-in-Some : goal.returns-in-Some
returns-in-Some c =
    let m = c.args.self.now in
    moves_as m m _ _ _ _ (rw (c.in-Some.is, c.as_ref.ensures) refl) refl refl c.put.ensures
