use Rattle.std.proofs.Common.{◌≡◌, ◌++◌, drop, map}
use Rattle.serde_json.specs.View.{view}
use Rattle.dp_dap_messages.specs.Values as spec
use Rattle.dp_dap_messages.proofs.shown.frames.Given as goal

abbrev pub invariant-loop-line : goal.invariant-loop-line
invariant-loop-line l =
    map view l.values.items ++ map spec.frame (drop l.line-index l.asked) ≡ map spec.frame l.asked
