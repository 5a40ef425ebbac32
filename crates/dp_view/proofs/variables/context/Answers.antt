use Rattle.std.proofs.Common.{sym, subst}
use Rattle.dp_view.specs.Children.{AreOfVariables}
use Rattle.dp_view.proofs.Paths.{of_variables}
use Rattle.dp_view.proofs.variables.context.Goals as goal

pub returns-clause-paths : goal.returns-clause-paths
returns-clause-paths c =
    let state = c.args.state.now in
    let p = c.args.p.now in
    subst (AreOfVariables state c.args.level c.args.id p) (sym c.in_ok-all_variables.ensures.made)
    (of_variables state c.args.level c.args.id p c.in_ok-variables.variables.now c.in_ok-variables.ensures
    c.all_variables.ensures.distinct c.in_ok-all_variables.ensures.keyed)
