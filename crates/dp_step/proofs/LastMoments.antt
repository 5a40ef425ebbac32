-- A list that has nothing at a number.
use Rattle.std.proofs.Common.{◌≡◌, ℕ, zero, suc, ◌≤◌, List, [], ◌∷◌, length, None, slice_get, arith}

pub past-all : {A : Type 0} (n : ℕ) (xs : List A) → slice_get xs n ≡ None → length xs ≤ n
past-all n [] e = omega arith
past-all zero (x ∷ xs) e = absurd (cc)
past-all (suc n) (x ∷ xs) e = let more = past-all n xs e in omega (arith, more)
