use Rattle.std.proofs.Common.{◌≡◌, ◌++◌, drop}
use Rattle.std.specs.List.{flat_map}
use Rattle.dp_view.specs.Properties.{variable_shown}
use Rattle.dp_view.specs.inner.Keyed.{VariablesAreKeyed}
use Rattle.dp_view.proofs.variables.all_variables.Given as goal

abbrev pub invariant-loop-at : goal.invariant-loop-at
invariant-loop-at l = record {
  made :
      l.made.items ++ flat_map (variable_shown l.id l.p l.globals) (drop l.at l.variables)
      ≡ flat_map (variable_shown l.id l.p l.globals) l.variables;
  keyed : VariablesAreKeyed l.p l.globals l.variables l.at;
}
