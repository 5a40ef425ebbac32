use Rattle.std.proofs.Common.{refl, ◌∙◌}
use Rattle.dp_actions.specs.Expressions.{evaluation}
use Rattle.dp_actions.specs.Run.{and_then, given_up}
use Rattle.dp_actions.specs.declared.signal.Signal.TheVariants.{Next}
use Rattle.dp_actions.proofs.AtOnceLaws.{first_done}
use Rattle.dp_small_steps.specs.declared.work.Given.TheVariants as given
use Rattle.dp_step.specs.inner.Moves.{follows_of, setting_at}
use Rattle.dp_step.proofs.FoundTests.{tested}
use Rattle.dp_step.proofs.Smalls.{moves_as, taken-moves}
use Rattle.dp_step.proofs.machine.Machine.effect.Goals as goal

pub returns-in-Ok : goal.returns-in-Ok
returns-in-Ok c =
    let m = c.args.self.now in
    moves_as m _ c.on.new.self _ _ c.on.result
    (tested (evaluation c.args.e.now (setting_at m) m.state) (λ _. tt) (λ _ t. follows_of m (given.Signal Next) t)
    ∙ first_done _ (rw (c.in-Ok.is, c.whole.ensures) at c.effect.ensures)) refl refl c.on.ensures

pub returns-in-Err : goal.returns-in-Err
returns-in-Err c =
    let m = c.args.self.now in
    taken-moves m _ _ (and_then (evaluation c.args.e.now (setting_at m) m.state) given_up) _ c.in-Err.why _ _
    c.halted.ensures
    (tested (evaluation c.args.e.now (setting_at m) m.state) (λ _. tt) (λ _ t. follows_of m (given.Signal Next) t))
    refl refl refl (rw (c.in-Err.is, c.whole.ensures) at c.effect.ensures)
