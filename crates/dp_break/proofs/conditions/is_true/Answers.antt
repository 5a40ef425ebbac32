use Rattle.std.proofs.Common.{Some, None, sym, ◌∙◌}
use Rattle.dp_break.proofs.Truths.{truth-value}
use Rattle.dp_break.proofs.conditions.is_true.Goals as goal

pub returns-in-Some : goal.returns-in-Some
returns-in-Some c =
    c.truthy.ensures
    ∙ sym (truth-value c.args.bundle.now c.args.e.now c.args.state.now (Some c.in-Some.found)
    (rw c.in-Some.is at c.in_ok-found.ensures))

pub returns-in-None : goal.returns-in-None
returns-in-None c =
    sym (truth-value c.args.bundle.now c.args.e.now c.args.state.now None (rw c.in-None.is at c.in_ok-found.ensures))
