-- The measures of the recursion over an expression, and what its loops keep: what the whole list does, the rest of it
-- does.
use Rattle.std.proofs.Common.{◌≡◌, ◌+◌, ◌*◌, max, map, drop}
use Rattle.std.specs.Option.{option_map_or}
use denote.Param.Weighed.{most}
use Rattle.dp_tree.specs.declared.tree.Expression.{size-Expression}
use Rattle.dp_tree.specs.declared.tree.Item.{size-Item}
use Rattle.dp_tree.specs.declared.tree.Link.{size-Link}
use Rattle.dp_tree.specs.declared.tree.Place.{size-Place}
use Rattle.dp_value.specs.declared.value.Value.TheVariants as variant
use Rattle.dp_value.specs.Table.{empty}
use Rattle.dp_actions.specs.Expressions.{evaluations, expression_run, indices_run, item_run_of, items_run, link_run, links_run, place_run}
use Rattle.dp_actions.specs.InPlace.{entries_by}
use Rattle.dp_actions.specs.Places.{isset_run}
use Rattle.dp_actions.specs.Setting.{Setting}
use Rattle.dp_actions.proofs.ObservedValues.{more_values}
use Rattle.dp_actions.proofs.observer.Observer.+observe.Given as goal

abbrev pub decreases-expression : goal.decreases-expression
decreases-expression l = 4 * size-Expression l.e.now

abbrev pub decreases-found : goal.decreases-found
decreases-found l = 4 * size-Expression l.e.now + 1

abbrev pub decreases-values : goal.decreases-values
decreases-values l = 4 * most size-Expression l.all.now + 1

abbrev pub decreases-index : goal.decreases-index
decreases-index l = 4 * max (size-Expression l.base.now) (most size-Expression l.indices.now) + 3

abbrev pub decreases-base : goal.decreases-base
decreases-base l = 4 * size-Expression l.e.now + 2

abbrev pub decreases-under : goal.decreases-under
decreases-under l = 4 * most size-Expression l.indices.now + 2

abbrev pub decreases-isset : goal.decreases-isset
decreases-isset l = 4 * most size-Place l.places.now + 3

abbrev pub decreases-missing_at : goal.decreases-missing_at
decreases-missing_at l = 4 * size-Place l.place.now + 2

abbrev pub decreases-chain : goal.decreases-chain
decreases-chain l = 4 * max (size-Expression l.first.now) (most size-Link l.links.now) + 3

abbrev pub decreases-links : goal.decreases-links
decreases-links l = 4 * most size-Link l.links.now + 2

abbrev pub decreases-link : goal.decreases-link
decreases-link l = 4 * size-Link l.link.now + 1

abbrev pub decreases-coalesce : goal.decreases-coalesce
decreases-coalesce l = 4 * max (size-Expression l.left.now) (size-Expression l.right.now) + 3

abbrev pub decreases-conditional : goal.decreases-conditional
decreases-conditional l =
    4 * max (size-Expression l.test.now) (max (option_map_or size-Expression l.middle.now 0)
    (size-Expression l.otherwise.now)) + 3

abbrev pub decreases-chosen : goal.decreases-chosen
decreases-chosen l = 4 * option_map_or size-Expression l.middle.now 0 + 1

abbrev pub decreases-array : goal.decreases-array
decreases-array l = 4 * most size-Item l.items.now + 2

abbrev pub decreases-item : goal.decreases-item
decreases-item l = 4 * size-Item l.item.now + 1

abbrev pub decreases-keyed : goal.decreases-keyed
decreases-keyed l = 4 * max (size-Expression l.key.now) (size-Expression l.item.now) + 2

abbrev pub invariant-values-loop-e : goal.invariant-values-loop-e
invariant-values-loop-e l = (setting : Setting)
    → evaluations l.all setting l.self.state.now ≡ more_values (drop l.e-index l.all) l.values.items setting
    l.self.state.now

abbrev pub invariant-under-loop-e : goal.invariant-under-loop-e
invariant-under-loop-e l = (setting : Setting)
    → indices_run (entries_by l.reading) (map expression_run l.indices) l.fn.base setting l.self.state.now
    ≡ indices_run (entries_by l.reading) (map expression_run (drop l.e-index l.indices)) l.value setting
    l.self.state.now

abbrev pub invariant-isset-loop-place : goal.invariant-isset-loop-place
invariant-isset-loop-place l = (setting : Setting)
    → isset_run (map place_run l.places) setting l.self.state.now
    ≡ isset_run (map place_run (drop l.place-index l.places)) setting l.self.state.now

abbrev pub invariant-links-loop-link : goal.invariant-links-loop-link
invariant-links-loop-link l = (setting : Setting)
    → links_run (map link_run l.links) l.fn.first setting l.self.state.now
    ≡ links_run (map link_run (drop l.link-index l.links)) l.value setting l.self.state.now

abbrev pub invariant-array-loop-item : goal.invariant-array-loop-item
invariant-array-loop-item l = (setting : Setting)
    → items_run (map item_run_of l.items) (variant.Array empty) setting l.self.state.now
    ≡ items_run (map item_run_of (drop l.item-index l.items)) l.array setting l.self.state.now
