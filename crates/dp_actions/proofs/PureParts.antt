-- The lists of parts of an expression that is pure are pure.
use Rattle.std.proofs.Common.{◌≡◌, Bool, true, false, ◌&&◌, List, refl, sym, ap, ◌∙◌}
use Rattle.std.specs.List.{list_all}
use Rattle.dp_tree.specs.declared.tree.Expression.{Expression}
use Rattle.dp_tree.specs.declared.tree.Expression.TheVariants as tree
use Rattle.dp_tree.specs.declared.tree.Item.{Item}
use Rattle.dp_tree.specs.declared.tree.Link.{Link}
use Rattle.dp_tree.specs.declared.tree.Place.{Place}
use Rattle.dp_tree.specs.Purity.{is_pure}
use Rattle.dp_tree.specs.inner.Parts.{item_is_pure, link_is_pure, place_is_pure}
use Rattle.dp_tree.proofs.TreePurity.{array_is_pure, chain_is_pure, index_is_pure, isset_is_pure, place_pure}

both : (a b : Bool) → (a && b) ≡ true → (a ≡ true) × (b ≡ true)
both true true e = (refl, refl)
both true false e = absurd (cc)
both false b e = absurd (cc)

module _ (e : Expression) (pure : is_pure e ≡ true) where
  pub of-Array : (items : List Item) → e ≡ tree.Array items → list_all item_is_pure items ≡ true
  of-Array items is = sym (ap is_pure is ∙ array_is_pure items) ∙ pure

  pub of-Isset : (places : List Place) → e ≡ tree.Isset places → list_all place_is_pure places ≡ true
  of-Isset places is = sym (ap is_pure is ∙ isset_is_pure places) ∙ pure

  pub of-Index : (base : Expression) (indices : List Expression) → e ≡ tree.Index base indices
      → (is_pure base ≡ true) × (list_all is_pure indices ≡ true)
  of-Index base indices is = both _ _ (sym (ap is_pure is ∙ index_is_pure base indices) ∙ pure)

  pub of-Chain : (first : Expression) (links : List Link) → e ≡ tree.Chain first links
      → (is_pure first ≡ true) × (list_all link_is_pure links ≡ true)
  of-Chain first links is = both _ _ (sym (ap is_pure is ∙ chain_is_pure first links) ∙ pure)

pub of-place : (place : Place) → place_is_pure place ≡ true → list_all is_pure place.indices ≡ true
of-place place pure = sym (place_pure place) ∙ pure
