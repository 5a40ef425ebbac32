use Rattle.std.proofs.Common.{◌≡◌, drop}
use Rattle.std.specs.List.{list_all}
use Rattle.std.specs.Option.{option_copied}
use Rattle.dp_analysis.specs.Still.{calls_of, is_still, place_is_still}
use Rattle.dp_analysis.specs.inner.Parts.{item_is_still, link_is_still}
use Rattle.dp_analysis.proofs.still.+still.Given as goal

abbrev pub invariant-all_still-loop-e : goal.invariant-all_still-loop-e
invariant-all_still-loop-e l =
    list_all (is_still (calls_of (option_copied l.loud))) l.all ≡ list_all
    (is_still (calls_of (option_copied l.loud))) (drop l.e-index l.all)

abbrev pub invariant-items_are_still-loop-item : goal.invariant-items_are_still-loop-item
invariant-items_are_still-loop-item l =
    list_all (item_is_still (calls_of (option_copied l.loud))) l.all ≡ list_all
    (item_is_still (calls_of (option_copied l.loud))) (drop l.item-index l.all)

abbrev pub invariant-links_are_still-loop-link : goal.invariant-links_are_still-loop-link
invariant-links_are_still-loop-link l =
    list_all (link_is_still (calls_of (option_copied l.loud))) l.all ≡ list_all
    (link_is_still (calls_of (option_copied l.loud))) (drop l.link-index l.all)

abbrev pub invariant-places_are_still-loop-place : goal.invariant-places_are_still-loop-place
invariant-places_are_still-loop-place l =
    list_all (place_is_still (calls_of (option_copied l.loud))) l.all ≡ list_all
    (place_is_still (calls_of (option_copied l.loud))) (drop l.place-index l.all)
