use Rattle.std.proofs.Common.{refl}
use Rattle.dp_actions.specs.Run.{and_then}
use Rattle.dp_small_steps.proofs.MomentSteps.{goes_as}
use Rattle.dp_small_steps.proofs.hands.first_of_statement.Goals as goal

pub returns-in-Unset : goal.returns-in-Unset
returns-in-Unset c = λ setting.
    rw (c.in-Unset.is, c.unplaced.ensures)
    (goes_as setting _ _ _ (λ k. c.unset.ensures setting k c.args.state.now))

pub returns-in-Constants : goal.returns-in-Constants
returns-in-Constants c = λ setting.
    rw (c.in-Constants.is, c.unplaced-in-Constants.ensures)
    (goes_as setting _ _ _ (λ k. c.constants.ensures setting k c.args.state.now))

pub returns-in-DoTurn : goal.returns-in-DoTurn
returns-in-DoTurn c = λ setting.
    rw (c.in-DoTurn.is, c.unplaced-in-DoTurn.ensures)
    (goes_as setting _ _ _ (λ k. c.do_turn.ensures setting k c.args.state.now))

pub returns-in-Turn : goal.returns-in-Turn
returns-in-Turn c = λ setting.
    rw c.in-Turn.is (goes_as setting _ _ _ (λ k. c.turn.ensures setting k c.args.state.now))

pub returns-in-EachTurn : goal.returns-in-EachTurn
returns-in-EachTurn c = λ setting.
    rw c.in-EachTurn.is (goes_as setting _ _ _ (λ k. c.each_turn.ensures setting k c.args.state.now))

pub returns-in-Global : goal.returns-in-Global
unfolding and_then
returns-in-Global c = λ setting. rw c.in-Global.is (c.moved.ensures setting _ _ (c.global.ensures setting))

pub returns-in-Over : goal.returns-in-Over
returns-in-Over c = λ setting. record { by = λ k. rw c.in-Over.is refl }

pub returns-in-Failed : goal.returns-in-Failed
returns-in-Failed c = λ setting. record { by = tt }

pub returns-in_default : goal.returns-in_default
returns-in_default c = λ setting.
    rw (c.unplaced-in_default.ensures, c.alone.ensures) (goes_as setting _ _ _ (λ k. refl))
