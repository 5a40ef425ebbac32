use Rattle.std.proofs.Common.{refl}
use Rattle.dp_step.proofs.Smalls.{moves_hand}
use Rattle.dp_step.proofs.machine.Machine.go.Goals as goal

pub returns-in-Effect : goal.returns-in-Effect
returns-in-Effect c = moves_hand c.args.self.now _ _ _ _ c.in-Effect.is refl refl c.effect.ensures

pub returns-in-Returning : goal.returns-in-Returning
returns-in-Returning c = moves_hand c.args.self.now _ _ _ _ c.in-Returning.is refl refl c.returning.ensures

pub returns-in-Choose : goal.returns-in-Choose
returns-in-Choose c = moves_hand c.args.self.now _ _ _ _ c.in-Choose.is refl refl c.choose.ensures

pub returns-in-Arms : goal.returns-in-Arms
returns-in-Arms c = moves_hand c.args.self.now _ _ _ _ c.in-Arms.is refl refl c.arms.ensures
