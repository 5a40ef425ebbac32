-- Where in a list the first element that passes a test stands.
use Rattle.std.specs.Prelude.{◌≡◌, ℕ, zero, suc, Bool, true, false, List, [], ◌∷◌}
use Rattle.std.specs.List.{AllByRecursion}

abbrev pub IsAbsent : {X : Type 0} → (X → Bool) → List X → Type 0
IsAbsent test xs = AllByRecursion (λ x. test x ≡ false) xs

abbrev pub IsFirst : {X : Type 0} → (X → Bool) → List X → ℕ → Type 0
IsFirst test [] n = ⊥
IsFirst test (x ∷ xs) zero = test x ≡ true
IsFirst test (x ∷ xs) (suc n) = (test x ≡ false) × IsFirst test xs n
