-- The measures of the recursion over an expression of integers, and what its loop keeps.
use Rattle.std.proofs.Common.{◌≡◌, ◌+◌, ◌*◌, max, map, drop}
use denote.Param.Weighed.{most}
use Rattle.dp_tree.specs.declared.tree.Expression.{size-Expression}
use Rattle.dp_tree.specs.declared.tree.Link.{size-Link}
use Rattle.dp_value.specs.declared.value.Value.TheVariants as variant
use Rattle.dp_actions.specs.Expressions.{chained, expression_run, link_run, links_run}
use Rattle.dp_actions.specs.Setting.{Setting}
use Rattle.dp_actions.proofs.integers.+integers.Given as goal

abbrev pub decreases-operand : goal.decreases-operand
decreases-operand l = 2 * size-Expression l.e.now

abbrev pub decreases-joined : goal.decreases-joined
decreases-joined l = 2 * max (size-Expression l.first.now) (most size-Link l.links.now) + 1

abbrev pub invariant-joined-loop-link : goal.invariant-joined-loop-link
invariant-joined-loop-link l = (setting : Setting)
    → chained (expression_run l.first) (map link_run l.links) setting l.state
    ≡ links_run (map link_run (drop l.link-index l.links)) (variant.Int l.n) setting l.state
