use Rattle.dp_small_steps.proofs.MomentSteps.{goes_as}
use Rattle.dp_small_steps.proofs.hands.first_of.Goals as goal

pub returns-in-Evaluate : goal.returns-in-Evaluate
returns-in-Evaluate c = λ setting same.
    rw c.in-Evaluate.is (c.moved.ensures setting _ _ (c.evaluate.ensures setting same))

pub returns-in-Find : goal.returns-in-Find
returns-in-Find c = λ setting same.
    rw (c.in-Find.is, c.unplaced.ensures)
    (goes_as setting _ _ _ (λ k. c.find.ensures setting k c.args.state.now))

pub returns-in-Values : goal.returns-in-Values
returns-in-Values c = λ setting same.
    rw (c.in-Values.is, c.unplaced-in-Values.ensures)
    (goes_as setting _ _ _ (λ k. c.values.ensures setting k c.args.state.now))

pub returns-in-Items : goal.returns-in-Items
returns-in-Items c = λ setting same.
    rw (c.in-Items.is, c.unplaced-in-Items.ensures)
    (goes_as setting _ _ _ (λ k. c.items.ensures setting k c.args.state.now))

pub returns-in-Links : goal.returns-in-Links
returns-in-Links c = λ setting same.
    rw (c.in-Links.is, c.unplaced-in-Links.ensures)
    (goes_as setting _ _ _ (λ k. c.links.ensures setting k c.args.state.now))

pub returns-in-Isset : goal.returns-in-Isset
returns-in-Isset c = λ setting same.
    rw (c.in-Isset.is, c.unplaced-in-Isset.ensures)
    (goes_as setting _ _ _ (λ k. c.isset.ensures setting k c.args.state.now))

pub returns-in-Under : goal.returns-in-Under
returns-in-Under c = λ setting same.
    rw c.in-Under.is (c.moved-in-Under.ensures setting _ _ (c.under.ensures setting c.args.state.now))

pub returns-in_default : goal.returns-in_default
returns-in_default c = λ setting same. c.first_of_statement.ensures setting
