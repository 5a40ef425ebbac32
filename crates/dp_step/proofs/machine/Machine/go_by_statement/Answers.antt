use Rattle.std.proofs.Common.{refl}
use Rattle.dp_step.proofs.Smalls.{moves_hand}
use Rattle.dp_step.proofs.machine.Machine.go_by_statement.Goals as goal

pub returns-in-Run : goal.returns-in-Run
returns-in-Run c = moves_hand c.args.self.now _ _ _ _ c.in-Run.is refl refl c.begin.ensures

pub returns-in-Each : goal.returns-in-Each
returns-in-Each c = moves_hand c.args.self.now _ _ _ _ c.in-Each.is refl refl c.each.ensures

pub returns-in-Evaluate : goal.returns-in-Evaluate
returns-in-Evaluate c = moves_hand c.args.self.now _ _ _ _ c.in-Evaluate.is refl refl c.evaluate_whole.ensures

pub returns-in-Echo : goal.returns-in-Echo
returns-in-Echo c = moves_hand c.args.self.now _ _ _ _ c.in-Echo.is refl refl c.echo.ensures
