-- Columns of which some rows are removed already: these stand together, so many from a row on.
-- Those that are left stand before and behind them.
use Rattle.std.specs.Prelude.{ℕ, zero, suc, ◌+◌, List, [], ◌∷◌, drop}

-- what is left of a column
abbrev pub left : {X : Type 0} → ℕ → ℕ → List X → List X
left zero gone xs = drop gone xs
left (suc start) gone [] = []
left (suc start) gone (x ∷ xs) = x ∷ left start gone xs

-- the row that stands at a position among those that are left
abbrev pub row_at : ℕ → ℕ → ℕ → ℕ
row_at zero gone at = gone + at
row_at (suc start) gone zero = zero
row_at (suc start) gone (suc at) = suc (row_at start gone at)
