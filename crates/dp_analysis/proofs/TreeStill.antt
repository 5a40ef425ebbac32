-- Whether an expression is still, where it has lists of parts.
use Rattle.std.proofs.Common.{◌≡◌, ℕ, Bool, true, false, not, ◌&&◌, ◌||◌, List, [], ◌∷◌, map, refl, sym, ap, ◌∙◌}
use Rattle.std.proofs.lemmas.List.Folds.{list_all-map}
use Rattle.std.specs.List.{list_all}
use Rattle.dp_tree.specs.declared.tree.Item.{Item}
use Rattle.dp_tree.specs.declared.tree.Link.{Link}
use Rattle.dp_tree.specs.declared.tree.Place.{Place}
use Rattle.dp_tree.specs.declared.tree.Expression.{Expression}
use Rattle.dp_tree.specs.declared.tree.Expression.TheFolds.{fold-roll-Expression, fold_out-Place}
use Rattle.dp_tree.specs.declared.tree.Expression.TheOpen.{Expression-F}
use Rattle.dp_tree.specs.declared.tree.Expression.TheVariants as tree
use Rattle.dp_tree.specs.Purity.{all_pure, place_layer, item_layer, link_layer}
use Rattle.dp_analysis.specs.Depth.{any_deep}
use Rattle.dp_analysis.specs.Still.{is_still, place_is_still, still_layer}
use Rattle.dp_analysis.specs.inner.Parts.{item_is_still, link_is_still}

pub parts : {A : Type 0} (f : A → Bool) (all : List A) → all_pure (map f all) ≡ list_all f all
parts f all = list_all-map (λ part. part) f all

module _ (loud : List ℕ → Bool) where
  pub array_is : (items : List Item) → is_still loud (tree.Array items) ≡ list_all (item_is_still loud) items
  array_is items =
      ap (is_still loud) (sym (tree.rolls-Array items))
      ∙ fold-roll-Expression Bool Bool Bool Bool (still_layer loud) item_layer link_layer place_layer
      (Expression-F.Array items)
      ∙ parts (item_is_still loud) items

  pub isset_is : (places : List Place) → is_still loud (tree.Isset places) ≡ list_all (place_is_still loud) places
  isset_is places =
      ap (is_still loud) (sym (tree.rolls-Isset places))
      ∙ fold-roll-Expression Bool Bool Bool Bool (still_layer loud) item_layer link_layer place_layer
      (Expression-F.Isset places)
      ∙ parts (place_is_still loud) places

  pub index_is : (base : Expression) (indices : List Expression)
      → is_still loud (tree.Index base indices) ≡ (is_still loud base && list_all (is_still loud) indices)
  index_is base indices =
      ap (is_still loud) (sym (tree.rolls-Index base indices))
      ∙ fold-roll-Expression Bool Bool Bool Bool (still_layer loud) item_layer link_layer place_layer
      (Expression-F.Index base indices)
      ∙ ap (λ rest. is_still loud base && rest) (parts (is_still loud) indices)

  pub chain_is : (first : Expression) (links : List Link)
      → is_still loud (tree.Chain first links) ≡ (is_still loud first && list_all (link_is_still loud) links)
  chain_is first links =
      ap (is_still loud) (sym (tree.rolls-Chain first links))
      ∙ fold-roll-Expression Bool Bool Bool Bool (still_layer loud) item_layer link_layer place_layer
      (Expression-F.Chain first links)
      ∙ ap (λ rest. is_still loud first && rest) (parts (link_is_still loud) links)

  pub place_is : (place : Place) → place_is_still loud place ≡ list_all (is_still loud) place.indices
  place_is place =
      fold_out-Place Bool Bool Bool Bool (still_layer loud) item_layer link_layer place_layer place
      ∙ parts (is_still loud) place.indices

  pub call_is : (name : List ℕ) (arguments : List Expression)
      → is_still loud (tree.Call name arguments) ≡ (not (loud name) && list_all (is_still loud) arguments)
  call_is name arguments =
      ap (is_still loud) (sym (tree.rolls-Call name arguments))
      ∙ fold-roll-Expression Bool Bool Bool Bool (still_layer loud) item_layer link_layer place_layer
      (Expression-F.Call name arguments)
      ∙ ap (λ rest. not (loud name) && rest) (parts (is_still loud) arguments)

  some-not : (a b : Bool) → not (a && b) ≡ (not a || not b)
  some-not true b = refl
  some-not false b = refl

  pub some_deep : (all : List Expression) → not (list_all (is_still loud) all) ≡ any_deep loud all
  some_deep [] = refl
  some_deep (e ∷ es) =
      some-not (is_still loud e) (list_all (is_still loud) es) ∙ ap (λ b. not (is_still loud e) || b) (some_deep es)
