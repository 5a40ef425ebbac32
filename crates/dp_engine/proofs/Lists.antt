-- An element of a list, and the list from it on.
use Rattle.std.proofs.Common.{◌≡◌, ℕ, zero, suc, List, [], ◌∷◌, drop, Some, None, slice_get, refl, ap}

pub drop-at : {A : Type 0} (k : ℕ) (xs : List A) (x : A) → slice_get xs k ≡ Some x → drop k xs ≡ x ∷ drop (suc k) xs
drop-at k [] x e = absurd (cc)
drop-at zero (y ∷ ys) x e = let same : y ≡ x = cc in ap (λ z. z ∷ ys) same
drop-at (suc k) (y ∷ ys) x e = drop-at k ys x e

pub drop-past : {A : Type 0} (k : ℕ) (xs : List A) → slice_get xs k ≡ None → drop k xs ≡ []
drop-past zero [] e = refl
drop-past (suc k) [] e = refl
drop-past zero (y ∷ ys) e = absurd (cc)
drop-past (suc k) (y ∷ ys) e = drop-past k ys e
