use Rattle.std.proofs.Common.{drop, refl}
use Rattle.std.proofs.lemmas.Result.{IfOk-weaker}
use Rattle.dp_actions.specs.Loops.{each_run, entries}
use Rattle.dp_actions.specs.Statements.{statement_run}
use Rattle.dp_step.proofs.LeapLaws.{leaps_as}
use Rattle.dp_step.proofs.machine.Machine.entries.Goals as goal

pub returns : goal.returns
returns c =
    let m = c.args.self.now in
    let loop = c.args.turns in
    IfOk-weaker c.gave.result _ _ (λ end leaps. leaps_as m _ c.gave.new.self _ _ end refl refl leaps)
    (c.gave.ensures (λ setting s. each_run loop.line loop.binding.now (drop c.args.at (entries c.args.subject))
    (statement_run loop.body.now setting) s) m.state
    (record { by = rw (c.whole.ensures, c.as_ref-body.ensures) at c.entries-done.ensures }))
