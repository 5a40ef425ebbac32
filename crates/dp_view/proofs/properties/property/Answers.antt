use Rattle.std.proofs.Common.{sym, subst}
use Rattle.dp_value.specs.Value.{data_of}
use Rattle.dp_view.specs.Children.{HasPaths}
use Rattle.dp_view.proofs.Paths.{has_paths}
use Rattle.dp_view.proofs.properties.property.Goals as goal

pub returns-clause-paths : goal.returns-clause-paths
returns-clause-paths c =
    let path = c.args.path.now in
    let p = c.args.p.now in
    subst (HasPaths c.args.state.now c.args.level c.args.id path p) (sym c.in_ok-property_at.ensures.made)
    (has_paths c.args.state.now c.args.level c.args.id path p
    (data_of c.in_ok-value.value.now) c.in_ok-value.ensures c.in_ok-property_at.ensures.keyed)
