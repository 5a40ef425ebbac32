-- Options that can be sent.
use Rattle.std.specs.Prelude.{◌≡◌, ◌==◌, ℕ, false, List}
use Rattle.std.specs.List.{AllByRecursion}

-- no letter of them is NUL
abbrev pub AreLettered : List (ℕ × List ℕ) → Type 0
AreLettered = AllByRecursion (λ o. (o.0 == 0) ≡ false)
