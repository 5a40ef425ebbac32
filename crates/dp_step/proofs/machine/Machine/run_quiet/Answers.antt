use Rattle.std.proofs.Common.{refl}
use Rattle.dp_step.proofs.PassedWays.{quiet-off, quiet-on}
use Rattle.dp_step.proofs.machine.Machine.run_quiet.Goals as goal

pub returns-in-Ok : goal.returns-in-Ok
returns-in-Ok c = λ lines names are_loud held.
    quiet-on lines names c.args.self.now c.args.statement.now are_loud held c.in-Ok.signal _ _
    (rw (c.whole.ensures, c.in-Ok.is) at c.statement-done.ensures) refl refl refl c.put_hand.ensures refl refl

pub returns-in-Err : goal.returns-in-Err
returns-in-Err c = λ lines names are_loud held.
    quiet-off lines names c.args.self.now c.args.statement.now are_loud held c.in-Err.why _ _ c.halted.ensures
    (rw (c.whole.ensures, c.in-Err.is) at c.statement-done.ensures) refl refl
