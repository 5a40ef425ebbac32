-- The tables of keys: what stands under a key.
use Rattle.std.specs.Prelude.{ℕ, List, [], Option, unwrap_or, bytes_eq}
use Rattle.std.specs.Map.{lookup}

abbrev pub place_of : List (List ℕ × ℕ) → List ℕ → Option ℕ
place_of places key = lookup (bytes_eq key) places

abbrev pub sessions_of : List (List ℕ × List ℕ) → List ℕ → List ℕ
sessions_of table key = unwrap_or (lookup (bytes_eq key) table) []
