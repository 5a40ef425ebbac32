-- The past stands: a write does not change what came before it.
use Rattle.std.specs.Prelude.{◌≡◌, ℕ, ◌<◌, List, take}
use Rattle.dp_tree.specs.declared.bundle.Bundle.{Bundle}
use Rattle.dp_meaning.specs.declared.writes.NumberedWrite.{NumberedWrite}
use Rattle.dp_meaning.specs.Trace.{program_trace}
use Rattle.dp_meaning.specs.Writes.{of_number}

-- two lists of writes have the same writes of each number below n
abbrev pub AgreeBelow : ℕ → List NumberedWrite → List NumberedWrite → Type 0
AgreeBelow n ws vs = (k : ℕ) → k < n → of_number k ws ≡ of_number k vs

-- the moments up to the n-th, each with the state in which it comes before its own writes, are the
-- same
abbrev pub SameUpTo : Bundle → ℕ → ℕ → List NumberedWrite → List NumberedWrite → Type 0
SameUpTo bundle bound n ws vs =
    take n (program_trace bundle bound ws).moments ≡ take n (program_trace bundle bound vs).moments
