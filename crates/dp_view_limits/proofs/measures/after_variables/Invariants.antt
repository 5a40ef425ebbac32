use Rattle.std.proofs.Common.{◌≡◌, ◌-◌, drop}
use Rattle.std.specs.Prelude.{sum_by}
use Rattle.dp_view_limits.specs.inner.Sizes.{variable_size}
use Rattle.dp_view_limits.proofs.measures.after_variables.Given as goal

abbrev pub invariant-loop-at : goal.invariant-loop-at
invariant-loop-at l =
    l.left - sum_by (variable_size l.id l.p l.globals) l.variables
    ≡ l.rest - sum_by (variable_size l.id l.p l.globals) (drop l.at l.variables)
