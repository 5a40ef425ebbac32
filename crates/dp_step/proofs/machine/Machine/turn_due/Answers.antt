use Rattle.std.proofs.Common.{refl, sym, ap, ◌∙◌}
use Rattle.dp_actions.specs.Expressions.{evaluations}
use Rattle.dp_actions.specs.Loops.{last_holds}
use Rattle.dp_actions.specs.Run.{Done, and_then, ◌>>=◌}
use Rattle.dp_actions.specs.declared.signal.Signal.TheVariants.{Next}
use Rattle.dp_actions.proofs.AtOnceLaws.{first_done}
use Rattle.dp_actions.proofs.Runs.{and_then-assoc}
use Rattle.dp_small_steps.specs.Parts.{to_signal}
use Rattle.dp_small_steps.specs.Rest.{tests_of, turns_decided}
use Rattle.dp_small_steps.specs.declared.work.Given.TheVariants as given
use Rattle.dp_step.specs.inner.Innermost.{over}
use Rattle.dp_step.specs.inner.Moves.{follows_of, setting_at}
use Rattle.dp_step.proofs.FoundTests.{tested}
use Rattle.dp_step.proofs.Smalls.{moves_as, taken-moves}
use Rattle.dp_step.proofs.TurnSteps.{on-is}
use Rattle.dp_step.proofs.machine.Machine.turn_due.Goals as goal

pub returns-in-Ok-Some : goal.returns-in-Ok-Some
returns-in-Ok-Some c =
    let m = c.args.self.now in
    let below = c.requires.0 in
    moves_as m _ _ _ _ _ (on-is m below m.state m.pending.items _ c.requires.1 ∙ and_then-assoc _ _ _
    ∙ tested (evaluations (tests_of c.args.turns.head) (setting_at m) m.state) last_holds
    (λ b t. turns_decided (setting_at m) c.args.turns c.args.left b t >>= to_signal (over m below))
    ∙ first_done _ (rw (c.in-Ok-Some.is, c.in-Ok-Some.field-0-is, c.whole.ensures) at c.head_holds.ensures).finds) refl
    refl (c.decide.ensures below c.requires.1)

pub returns-in-Ok-None : goal.returns-in-Ok-None
returns-in-Ok-None c =
    let m = c.args.self.now in
    let same = (rw (c.in-Ok-None.is, c.in-Ok-None.field-0-is) at c.head_holds.ensures).finds in
    moves_as m _ _ _ _ _ (ap (follows_of m (given.Signal Next)) (sym same)) refl refl c.take.ensures

pub returns-in-Err : goal.returns-in-Err
returns-in-Err c =
    let m = c.args.self.now in
    let below = c.requires.0 in
    taken-moves m _ _ (and_then (evaluations (tests_of c.args.turns.head) (setting_at m) m.state)
    (λ values t. Done (last_holds values) t)) _ c.in-Err.why _ _ c.halted.ensures
    (on-is m below m.state m.pending.items _ c.requires.1 ∙ and_then-assoc _ _ _
    ∙ tested (evaluations (tests_of c.args.turns.head) (setting_at m) m.state) last_holds
    (λ b t. turns_decided (setting_at m) c.args.turns c.args.left b t >>= to_signal (over m below))) refl refl refl
    (rw (c.in-Err.is, c.whole.ensures) at c.head_holds.ensures).finds
