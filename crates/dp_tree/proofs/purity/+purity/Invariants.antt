use Rattle.std.proofs.Common.{◌≡◌, drop}
use Rattle.std.specs.List.{list_all}
use Rattle.dp_tree.specs.Purity.{is_pure}
use Rattle.dp_tree.specs.inner.Parts.{item_is_pure, link_is_pure, place_is_pure}
use Rattle.dp_tree.proofs.purity.+purity.Given as goal

abbrev pub invariant-all_pure-loop-e : goal.invariant-all_pure-loop-e
invariant-all_pure-loop-e l = list_all is_pure l.all ≡ list_all is_pure (drop l.e-index l.all)

abbrev pub invariant-items_are_pure-loop-item : goal.invariant-items_are_pure-loop-item
invariant-items_are_pure-loop-item l = list_all item_is_pure l.all ≡ list_all item_is_pure (drop l.item-index l.all)

abbrev pub invariant-links_are_pure-loop-link : goal.invariant-links_are_pure-loop-link
invariant-links_are_pure-loop-link l = list_all link_is_pure l.all ≡ list_all link_is_pure (drop l.link-index l.all)

abbrev pub invariant-places_are_pure-loop-place : goal.invariant-places_are_pure-loop-place
invariant-places_are_pure-loop-place l =
    list_all place_is_pure l.all ≡ list_all place_is_pure (drop l.place-index l.all)
