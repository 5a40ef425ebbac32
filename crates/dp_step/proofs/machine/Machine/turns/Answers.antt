use Rattle.std.proofs.Common.{[], ◌∷◌, refl}
use Rattle.std.proofs.lemmas.Result.{IfOk-weaker}
use Rattle.dp_actions.specs.Expressions.{evaluations}
use Rattle.dp_actions.specs.Loops.{turns}
use Rattle.dp_actions.specs.Statements.{statement_run}
use Rattle.dp_step.proofs.LeapLaws.{leaps_as, turns-by}
use Rattle.dp_step.proofs.machine.Machine.turns.Goals as goal

pub returns-in-While : goal.returns-in-While
returns-in-While c =
    let m = c.args.self.now in
    let loop = c.args.turns in
    IfOk-weaker c.gave.result _ _ (λ end leaps. leaps_as m _ c.gave.new.self _ _ end
    (turns-by m loop c.args.left _ c.in-While.is) refl leaps)
    (c.gave.ensures (λ setting s. turns c.args.left loop.line (evaluations (c.in-While.test.now ∷ []) setting)
    (evaluations [] setting)
    (statement_run loop.body.now setting) s) m.state
    (record {
      by = rw (c.whole.ensures, c.from_ref-tests.ensures.value, c.as_ref-body.ensures)
          at c.turns-done.ensures;
    }))

pub returns-in-For : goal.returns-in-For
returns-in-For c =
    let m = c.args.self.now in
    let loop = c.args.turns in
    IfOk-weaker c.gave-in-For.result _ _ (λ end leaps. leaps_as m _ c.gave-in-For.new.self _ _ end
    (turns-by m loop c.args.left _ c.in-For.is) refl leaps)
    (c.gave-in-For.ensures (λ setting s. turns c.args.left loop.line (evaluations c.in-For.tests.now setting)
    (evaluations c.in-For.after.now setting)
    (statement_run loop.body.now setting) s) m.state
    (record {
      by = rw (
        c.whole-in-For.ensures,
        c.as_slice-tests.ensures,
        c.as_slice-after.ensures,
        c.as_ref-body.ensures,
      ) at c.turns-done-in-For.ensures;
    }))
