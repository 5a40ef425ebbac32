use Rattle.std.proofs.Common.{refl}
use Rattle.dp_state.specs.declared.moments.MomentKind.TheVariants as moment
use Rattle.dp_actions.specs.Expressions.{evaluation}
use Rattle.dp_actions.specs.Run.{At, and_then}
use Rattle.dp_actions.specs.Statements.{returning}
use Rattle.dp_actions.proofs.Runs.{and_then-assoc}
use Rattle.dp_small_steps.specs.Parts.{to_signal}
use Rattle.dp_step.specs.inner.Moves.{follows_of, setting_at}
use Rattle.dp_step.proofs.Smalls.{moves_as}
use Rattle.dp_step.proofs.machine.Machine.begin_return.Goals as goal

pub returns-in-None : goal.returns-in-None
unfolding and_then
returns-in-None c =
    let m = c.args.self.now in
    moves_as m m _ _ _ _ (rw c.in-None.is refl) refl refl c.begin_signal.ensures

pub returns-in-Some : goal.returns-in-Some
unfolding and_then
returns-in-Some c =
    let m = c.args.self.now in
    moves_as m m _ _ _ _ (rw c.in-Some.is (λ i. At moment.Place c.args.line m.state (λ t.
    and_then-assoc (evaluation c.in-Some.e (setting_at m) t) returning (to_signal (follows_of m)) i)))
    refl refl c.placed.ensures
