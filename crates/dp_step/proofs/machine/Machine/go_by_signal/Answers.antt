use Rattle.std.proofs.Common.{refl}
use Rattle.dp_step.proofs.Smalls.{moves_hand}
use Rattle.dp_step.proofs.machine.Machine.go_by_signal.Goals as goal

pub returns-then-is_next : goal.returns-then-is_next
returns-then-is_next c =
    moves_hand c.args.self.now _ _ _ _ (c.is_next.ensures c.if-is_next.true) refl refl c.on.ensures
