use Rattle.std.proofs.Common.{◌+◌, ◌-◌, ℕ, List, drop, slice_get, ap, ◌∙◌}
use Rattle.std.specs.Prelude.{sum_by}
use Rattle.std.specs.Option.{option_map_or}
use Rattle.dp_state.specs.declared.vars.Slot.{Slot}
use Rattle.dp_view_limits.specs.inner.Sizes.{variable_size}
use Rattle.dp_view_limits.proofs.Left.{sum_step, turn}
use Rattle.dp_view_limits.proofs.measures.after_variables.Goals as goal

pub loop-at-preserved : goal.loop-at-preserved
loop-at-preserved c =
    let f : List ℕ × Slot → ℕ = variable_size c.args.id c.args.p.now c.args.globals.now in
    let variables = c.args.variables.now in
    turn c.args.left c.loop-at.rest (sum_by f variables) (option_map_or f (slice_get variables c.loop-at.at) 0)
    (sum_by f (drop (c.loop-at.at + 1) variables))
    c.after_variable-rest.result (c.loop-at.invariant
    ∙ ap (λ n. c.loop-at.rest - n) (sum_step f variables c.loop-at.at)) c.after_variable-rest.ensures
