use Rattle.dp_step.proofs.Smalls.{kept}
use Rattle.dp_step.proofs.machine.Machine.keep.Goals as goal

pub returns-in-Ok : goal.returns-in-Ok
returns-in-Ok c =
    kept c.args.self.now c.hold.new.self c.args.small _ c.came_at.ensures c.in-Ok.ensures.rest c.hold.ensures.kept

pub returns-in-Err : goal.returns-in-Err
returns-in-Err c = record { by = tt; same_bundle = c.hold.ensures.kept.0; same_bound = c.hold.ensures.kept.1 }
