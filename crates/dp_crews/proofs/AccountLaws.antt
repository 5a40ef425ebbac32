-- What comes back, one after another.
use Rattle.std.proofs.Common.{◌≡◌, List, [], ◌∷◌, ◌++◌, refl, subst}
use Rattle.dp_crews.specs.Twins.{Each}
use Rattle.dp_crews.specs.inner.Accounts.{Folds, FoldsBoth}

pub folds_more : {A X : Type 0} (step : A → X → X → Type 0) (some : List A) (a : A) (x y z : X) → Folds step some x y
    → step a y z → Folds step (some ++ a ∷ []) x z
folds_more step [] a x y z before one = (z, subst (λ k. step a k z) before one, refl)
folds_more step (b ∷ some) a x y z before one = (before.0, before.1, folds_more step some a before.0 y z before.2 one)

-- what holds of each holds of one in the midst
pub each_at : {X : Type 0} (P : X → Type 0) (ys : List X) (x : X) (rest : List X) → Each P (ys ++ x ∷ rest) → P x
each_at P [] x rest all = all.0
each_at P (y ∷ ys) x rest all = each_at P ys x rest all.1

pub both_more : {A V W : Type 0} (step : A → V → V → W → W → Type 0) (some : List A) (a : A) (v u w : V) (x z y : W)
    → FoldsBoth step some v u x z → step a u w z y → FoldsBoth step (some ++ a ∷ []) v w x y
both_more step [] a v u w x z y before one =
    (w, y, subst (λ k. step a k w x y) before.0 (subst (λ k. step a u w k y) before.1 one), (refl, refl))
both_more step (b ∷ some) a v u w x z y before one =
    (before.0, before.1, before.2, both_more step some a before.0 u w before.1 z y before.3 one)

-- all of them
pub both_end : {A V W : Type 0} (step : A → V → V → W → W → Type 0) (some all : List A) (v w : V) (x y : W)
    → some ≡ all → FoldsBoth step some v w x y → FoldsBoth step all v w x y
both_end step some all v w x y same f = subst (λ l. FoldsBoth step l v w x y) same f
