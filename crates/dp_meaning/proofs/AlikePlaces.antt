-- What is kept by each step of a program is kept by what is done with places.
use Rattle.std.proofs.Common.{ℕ, Bool, false, List, [], ◌∷◌, map, refl}
use Rattle.dp_tree.specs.declared.bundle.Bundle.{Bundle}
use Rattle.dp_tree.specs.declared.operators.BinaryOp.{BinaryOp}
use Rattle.dp_tree.specs.declared.operators.UnaryOp.{UnaryOp}
use Rattle.dp_value.specs.declared.value.Value.{Value}
use Rattle.dp_value.specs.Value.{data_of}
use Rattle.dp_operations.specs.Binary.{binary_of}
use Rattle.dp_operations.specs.Indices.{found_by, indexed_by}
use Rattle.dp_operations.specs.Unary.{unary_of}
use Rattle.dp_state.specs.Places.{keys_of_indices}
use Rattle.dp_tree.specs.declared.tree.Order.{Order}
use Rattle.dp_actions.specs.Places.{PlaceRun, variable, read_run, found_run, assign_run, assignment, compound, coalescing, step, isset_run, unset_run}
use Rattle.dp_actions.specs.Setting.{Setting, Part}
use Rattle.dp_actions.specs.Values.{is_missing}
use Rattle.dp_meaning.proofs.Alike.{Facts, IsKept, Keeps, KeepsPart, Keeps-and_then, Keeps-value, Alike-if, Alike-taken}
use Rattle.dp_meaning.proofs.Each.{Each}

module _ {D : Type 0} (F : Facts D) (bundle : Bundle) (kept : IsKept F bundle) (d : D) (x y : Setting) where
  Keeps-assign : (name : List ℕ) (indices : List Value) (push : Bool) (v : Value)
      → Keeps F d (assign_run name indices push v) (assign_run name indices push v)
  Keeps-assign name indices push v n s p =
      Keeps-and_then F d n _ _ _ _ (Alike-taken F _ d d n s p
      (λ t e. kept.assigns d n 0 name (keys_of_indices indices) push v s t e p))
      (λ _ n t p. (p, refl, refl))

  Keeps-read : (name : List ℕ) (indices : List Value) → Keeps F d (read_run name indices) (read_run name indices)
  Keeps-read name indices n s p = Keeps-value F (indexed_by (map data_of indices) (data_of (variable name s))) d n s p

  Keeps-found : (name : List ℕ) (indices : List Value) → Keeps F d (found_run name indices) (found_run name indices)
  Keeps-found name indices n s p = Keeps-value F (found_by (map data_of indices) (data_of (variable name s))) d n s p

  -- its indices do
  abbrev pub KeepsPlace : PlaceRun → Type 0
  KeepsPlace place = KeepsPart F d x y place.indices

  module _ (place : PlaceRun) (indices_keep : KeepsPlace place) (right : Part Value)
      (right_keeps : KeepsPart F d x y right) where
    pub Keeps-assignment : (push : Bool) → KeepsPart F d x y (assignment push place right)
    Keeps-assignment push n s p =
        Keeps-and_then F d n _ _ _ _ (indices_keep n s p) (λ indices n t p.
        Keeps-and_then F d n _ _ _ _ (right_keeps n t p) (λ v. Keeps-assign place.name indices push v))

    pub Keeps-compound : (op : BinaryOp) → KeepsPart F d x y (compound op place right)
    Keeps-compound op n s p =
        Keeps-and_then F d n _ _ _ _ (indices_keep n s p) (λ indices n t p.
        Keeps-and_then F d n _ _ _ _ (Keeps-read place.name indices n t p) (λ old n u p.
        Keeps-and_then F d n _ _ _ _ (right_keeps n u p) (λ v n w p.
        Keeps-and_then F d n _ _ _ _ (Keeps-value F (binary_of op (data_of old) (data_of v)) d n w p)
        (λ new. Keeps-assign place.name indices false new))))

    pub Keeps-coalescing : KeepsPart F d x y (coalescing place right)
    Keeps-coalescing n s p =
        Keeps-and_then F d n _ _ _ _ (indices_keep n s p) (λ indices n t p.
        Keeps-and_then F d n _ _ _ _ (Keeps-found place.name indices n t p) (λ old n u p.
        Alike-if F (is_missing old) d n _ _ _ _
        (Keeps-and_then F d n _ _ _ _ (right_keeps n u p) (λ v. Keeps-assign place.name indices false v))
        (p, refl, refl)))

  module _ (place : PlaceRun) (indices_keep : KeepsPlace place) where
    pub Keeps-step : (op : UnaryOp) (order : Order) → KeepsPart F d x y (step op order place)
    Keeps-step op order n s p =
        Keeps-and_then F d n _ _ _ _ (indices_keep n s p) (λ indices n t p.
        Keeps-and_then F d n _ _ _ _ (Keeps-read place.name indices n t p) (λ old n u p.
        Keeps-and_then F d n _ _ _ _ (Keeps-value F (unary_of op (data_of old)) d n u p) (λ new n w p.
        Keeps-and_then F d n _ _ _ _ (Keeps-assign place.name indices false new n w p) (λ v n w p. (p, refl, refl)))))

  pub Keeps-isset : (places : List PlaceRun) → Each KeepsPlace places → KeepsPart F d x y (isset_run places)
  Keeps-isset [] each n s p = (p, refl, refl)
  Keeps-isset (place ∷ places) each n s p =
      Keeps-and_then F d n _ _ _ _ (each.0 n s p) (λ indices n t p.
      Keeps-and_then F d n _ _ _ _ (Keeps-found place.name indices n t p) (λ v n u p.
      Alike-if F (is_missing v) d n _ _ _ _ (p, refl, refl) (Keeps-isset places each.1 n u p)))

  pub Keeps-unset : (places : List PlaceRun) → Each KeepsPlace places → KeepsPart F d x y (unset_run places)
  Keeps-unset [] each n s p = (p, refl, refl)
  Keeps-unset (place ∷ places) each n s p =
      Keeps-and_then F d n _ _ _ _ (each.0 n s p) (λ indices n t p.
      Keeps-and_then F d n _ _ _ _ (Alike-taken F _ d d n t p
      (λ u e. kept.unsets d n place.name (keys_of_indices indices) t u e p))
      (λ _. Keeps-unset places each.1))
