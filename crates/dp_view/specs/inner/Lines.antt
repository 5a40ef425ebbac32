-- How many bytes the first lines of a text have.
use Rattle.std.specs.Prelude.{ℕ, zero, suc, ◌+◌, ◌==◌, if◌then◌else◌, List, [], ◌∷◌}

abbrev pub lines_length : ℕ → List ℕ → ℕ
lines_length zero bytes = 0
lines_length (suc n) [] = 0
lines_length (suc n) (b ∷ bytes) = 1 + lines_length (if b == 10 then n else suc n) bytes
