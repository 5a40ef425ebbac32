use Rattle.std.proofs.Common.{◌≡◌, is_some, ap, subst, sym, ◌∙◌}
use Rattle.std.proofs.lemmas.Result.{IfOk-weaker}
use Rattle.std.specs.Option.{option_copied}
use Rattle.dp_analysis.specs.Quiet.{AreLoud}
use Rattle.dp_engine.specs.Stops.{stops}
use Rattle.dp_engine.specs.inner.Unseen.{are_covered}
use Rattle.dp_engine.proofs.UnseenMoments.{goes-unseen, steps-unseen}
use Rattle.dp_engine.proofs.past.go_on.Goals as goal

pub returns-then-are_seen : goal.returns-then-are_seen
returns-then-are_seen g c = λ depth bundle bound writes n stands are_loud.
    let lines = c.args.lines.now in
    let lent = c.as_ref.ensures.value in
    let passed : is_some (option_copied c.as_ref.result) ≡ c.is_some.result = ap is_some lent ∙ sym c.is_some.ensures in
    IfOk-weaker c.go_past.result _ _ (λ came goes. goes-unseen lines (is_some (option_copied c.as_ref.result))
    (stops c.args.mode depth) (c.are_seen.ensures.mode c.if-are_seen.true depth) bundle bound writes
    c.args.breaks.now.held
    ((λ i. are_covered lines (passed i) (sym c.list.ensures.held i)) ∙ c.are_seen.ensures.covered c.if-are_seen.true)
    n came c.go_past.new.self _ _ goes)
    (c.go_past.ensures.goes_past bundle bound writes n stands (subst (AreLoud lines bundle) (sym lent) are_loud))

pub returns-else-are_seen : goal.returns-else-are_seen
returns-else-are_seen g c = λ depth bundle bound writes n stands are_loud.
    IfOk-weaker c.step_on.result _ _ (λ came goes. steps-unseen (stops c.args.mode depth) bundle bound writes
    c.args.breaks.now.held n came c.step_on.new.machine _ _ goes.0 goes.1)
    (c.step_on.ensures bundle bound writes n stands)
