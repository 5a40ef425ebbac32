use Rattle.std.proofs.Common.{◌≡◌, ◌≤◌, ◌+◌, ◌++◌, drop, map}
use Rattle.serde_json.specs.View.{view}
use Rattle.dp_dap_messages.specs.Values as spec
use Rattle.dp_dap_messages.proofs.shown.variables.Given as goal

abbrev pub invariant-loop-property : goal.invariant-loop-property
invariant-loop-property l = record {
  shown :
      map view l.values.items ++ spec.variables l.number (drop l.property-index l.properties)
      ≡ spec.variables l.listed l.properties;
  number : l.number ≤ l.listed + l.property-index;
}
