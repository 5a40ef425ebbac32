use Rattle.std.proofs.Common.{◌≡◌, ◌+◌, ◌++◌, drop, map}
use Rattle.serde_json.specs.View.{view}
use Rattle.dp_dap_messages.specs.Values as spec
use Rattle.dp_dap_messages.proofs.shown.scopes.Given as goal

abbrev pub invariant-loop-context : goal.invariant-loop-context
invariant-loop-context l = record {
  shown :
      map view l.values.items ++ spec.scopes l.number (drop l.context-index l.contexts)
      ≡ spec.scopes l.listed l.contexts;
  number : l.number ≡ l.listed + l.context-index;
}
