use Rattle.std.proofs.Common.{drop, ap}
use Rattle.dp_meaning.specs.declared.pure.Unwatched.{Unwatched}
use Rattle.dp_actions.specs.Loops.{each_run, entries}
use Rattle.dp_actions.specs.Statements.{statement_run}
use Rattle.dp_meaning.proofs.Wholes.{runs-whole}
use Rattle.dp_meaning.proofs.whole.Whole.entries.Goals as goal

pub returns : goal.returns
returns c =
    let by = c.evaluator.ensures.by in
    runs-whole c.args.self.now (λ setting s. each_run c.args.line c.args.binding.now
    (drop c.args.from (entries c.args.subject.now))
    (statement_run c.args.body.now setting) s)
    c.each.result c.args.state.now c.each.new.state _ _ _ _
    (ap (λ (q : Unwatched). q.bound) c.evaluator.ensures.unwatched) by.0
    by.1 by.2
    c.each.ensures.meets
