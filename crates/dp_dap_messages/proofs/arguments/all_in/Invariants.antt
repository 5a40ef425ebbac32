use Rattle.std.proofs.Common.{◌≡◌, ◌++◌, drop, option_map}
use Rattle.serde_json.specs.View.{items_view}
use Rattle.dp_dap_messages.specs.Arguments.{breakpoints_in}
use Rattle.dp_dap_messages.proofs.arguments.all_in.Given as goal

abbrev pub invariant-loop-value : goal.invariant-loop-value
invariant-loop-value l =
    option_map (λ r. l.all.items ++ r) (breakpoints_in (items_view (drop l.value-index l.values)))
    ≡ breakpoints_in (items_view l.values)
