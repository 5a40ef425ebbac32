-- Pieces that come one after the other, each with its text.
use Rattle.std.specs.Prelude.{ℕ, List, [], ◌∷◌, ◌++◌}

abbrev pub texts : {P : Type 0} → List (P × List ℕ) → List ℕ
texts [] = []
texts (p ∷ ps) = p.1 ++ texts ps

-- `Next p t rest` says that p, spelled t, comes before this rest. These pieces come one after the
-- other before the rest.
abbrev pub Come : {P : Type 0} → (P → List ℕ → List ℕ → Type 0) → List (P × List ℕ) → List ℕ
    → Type 0
Come Next [] rest = Unit {0}
Come Next (p ∷ ps) rest = Next p.0 p.1 (texts ps ++ rest) × Come Next ps rest
