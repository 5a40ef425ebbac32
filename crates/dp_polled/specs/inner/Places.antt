-- A place in a list of arrivals: those that are over, the others, and how many bytes of the first
-- of these were given.
use Rattle.std.specs.Prelude.{ℕ, ◌≤◌, List, [], ◌∷◌, ◌++◌, length, take, drop}
use Rattle.dp_polled.specs.Arrivals.{Arrival, Coming, bytes_of, first_bytes}

-- the arrivals without so many bytes of the first
abbrev pub cut : ℕ → List Arrival → List Arrival
cut at [] = []
cut at (a ∷ more) = (a.0, drop at a.1) ∷ more

abbrev pub coming_at : List Arrival → List Arrival → ℕ → Coming
coming_at over rest at = record {
  left = cut at rest;
  given = bytes_of over ++ take at (first_bytes rest);
}

abbrev pub IsPlace : List Arrival → ℕ → Type 0
IsPlace rest at = at ≤ length (first_bytes rest)
