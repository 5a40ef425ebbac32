-- Whether an expression is pure, where it has lists of parts.
use Rattle.std.proofs.Common.{◌≡◌, Bool, ◌&&◌, List, map, sym, ap, ◌∙◌}
use Rattle.std.proofs.lemmas.List.Folds.{list_all-map}
use Rattle.std.specs.List.{list_all}
use Rattle.dp_tree.specs.declared.tree.Item.{Item}
use Rattle.dp_tree.specs.declared.tree.Link.{Link}
use Rattle.dp_tree.specs.declared.tree.Place.{Place}
use Rattle.dp_tree.specs.declared.tree.Expression.{Expression}
use Rattle.dp_tree.specs.declared.tree.Expression.TheFolds.{fold-roll-Expression, fold_out-Place}
use Rattle.dp_tree.specs.declared.tree.Expression.TheOpen.{Expression-F}
use Rattle.dp_tree.specs.declared.tree.Expression.TheVariants as tree
use Rattle.dp_tree.specs.Purity.{all_pure, place_layer, item_layer, link_layer, expression_layer, is_pure}
use Rattle.dp_tree.specs.inner.Parts.{place_is_pure, item_is_pure, link_is_pure}

parts : {A : Type 0} (f : A → Bool) (all : List A) → all_pure (map f all) ≡ list_all f all
parts f all = list_all-map (λ part. part) f all

pub array_is_pure : (items : List Item) → is_pure (tree.Array items) ≡ list_all item_is_pure items
array_is_pure items =
    ap is_pure (sym (tree.rolls-Array items))
    ∙ fold-roll-Expression Bool Bool Bool Bool expression_layer item_layer link_layer place_layer
    (Expression-F.Array items)
    ∙ parts item_is_pure items

pub isset_is_pure : (places : List Place) → is_pure (tree.Isset places) ≡ list_all place_is_pure places
isset_is_pure places =
    ap is_pure (sym (tree.rolls-Isset places))
    ∙ fold-roll-Expression Bool Bool Bool Bool expression_layer item_layer link_layer place_layer
    (Expression-F.Isset places)
    ∙ parts place_is_pure places

pub index_is_pure : (base : Expression) (indices : List Expression)
    → is_pure (tree.Index base indices) ≡ (is_pure base && list_all is_pure indices)
index_is_pure base indices =
    ap is_pure (sym (tree.rolls-Index base indices))
    ∙ fold-roll-Expression Bool Bool Bool Bool expression_layer item_layer link_layer place_layer
    (Expression-F.Index base indices)
    ∙ ap (λ rest. is_pure base && rest) (parts is_pure indices)

pub chain_is_pure : (first : Expression) (links : List Link)
    → is_pure (tree.Chain first links) ≡ (is_pure first && list_all link_is_pure links)
chain_is_pure first links =
    ap is_pure (sym (tree.rolls-Chain first links))
    ∙ fold-roll-Expression Bool Bool Bool Bool expression_layer item_layer link_layer place_layer
    (Expression-F.Chain first links)
    ∙ ap (λ rest. is_pure first && rest) (parts link_is_pure links)

pub place_pure : (place : Place) → place_is_pure place ≡ list_all is_pure place.indices
place_pure place =
    fold_out-Place Bool Bool Bool Bool expression_layer item_layer link_layer place_layer place
    ∙ parts is_pure place.indices
