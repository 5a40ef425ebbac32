use Rattle.std.proofs.Common.{refl}
use Rattle.dp_actions.specs.Expressions.{evaluations}
use Rattle.dp_actions.proofs.AtOnceLaws.{first_done}
use Rattle.dp_small_steps.specs.Parts.{to_values}
use Rattle.dp_step.specs.inner.Moves.{follows_of, setting_at}
use Rattle.dp_step.proofs.Smalls.{moves_as, taken-moves}
use Rattle.dp_step.proofs.machine.Machine.values_at_once.Goals as goal

pub returns-in-Ok : goal.returns-in-Ok
returns-in-Ok c =
    let m = c.args.self.now in
    moves_as m _ c.take.new.self _ _ c.take.result
    (first_done (to_values (follows_of m)) (rw (c.in-Ok.is, c.whole.ensures, c.as_slice.ensures) at c.values.ensures))
    refl refl c.take.ensures

pub returns-in-Err : goal.returns-in-Err
returns-in-Err c =
    let m = c.args.self.now in
    taken-moves m _ _ (evaluations c.args.all.now (setting_at m) m.state) (to_values (follows_of m)) c.in-Err.why _ _
    c.halted.ensures refl refl refl refl (rw (c.in-Err.is, c.whole.ensures, c.as_slice.ensures) at c.values.ensures)
