use Rattle.std.proofs.Common.{refl, ◌∙◌}
use Rattle.dp_actions.specs.Expressions.{evaluations}
use Rattle.dp_actions.specs.Run.{and_then, given_up, ◌>>=◌}
use Rattle.dp_actions.proofs.AtOnceLaws.{first_done}
use Rattle.dp_small_steps.specs.Parts.{to_signal}
use Rattle.dp_small_steps.specs.Rest.{turns_of}
use Rattle.dp_step.specs.inner.Innermost.{over}
use Rattle.dp_step.specs.inner.Moves.{setting_at}
use Rattle.dp_step.proofs.FoundTests.{tested}
use Rattle.dp_step.proofs.Smalls.{moves_as, taken-moves}
use Rattle.dp_step.proofs.machine.Machine.after.Goals as goal

pub returns-in-Ok : goal.returns-in-Ok
returns-in-Ok c = λ below e.
    let m = c.args.self.now in
    moves_as m _ _ _ _ _ (tested (evaluations c.args.after.now (setting_at m) m.state) (λ _. tt)
    (λ _ t. turns_of (setting_at m) c.args.turns c.args.left t >>= to_signal (over m below))
    ∙ first_done _ (rw (c.in-Ok.is, c.whole.ensures, c.as_slice.ensures) at c.effects.ensures)) refl refl
    (c.turn.ensures below e)

pub returns-in-Err : goal.returns-in-Err
returns-in-Err c = λ below e.
    let m = c.args.self.now in
    taken-moves m _ _ (and_then (evaluations c.args.after.now (setting_at m) m.state) given_up) _ c.in-Err.why _ _
    c.halted.ensures (tested (evaluations c.args.after.now (setting_at m) m.state) (λ _. tt)
    (λ _ t. turns_of (setting_at m) c.args.turns c.args.left t >>= to_signal (over m below))) refl refl refl
    (rw (c.in-Err.is, c.whole.ensures, c.as_slice.ensures) at c.effects.ensures)
