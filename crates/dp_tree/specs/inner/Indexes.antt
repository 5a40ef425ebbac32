-- Indexes of functions by their names in lower case.
use Rattle.std.specs.Prelude.{◌≡◌, ℕ, if◌then◌else◌, is_some, List, [], ◌∷◌, ◌++◌, Option, position}
use Rattle.std.specs.List.{AllZip}
use Rattle.std.specs.Map.{lookup}
use Rattle.std.specs.Str.{bytes_eq, str_to_ascii_lowercase}
use Rattle.dp_tree.specs.declared.bundle.BundleFile.{BundleFile}
use Rattle.dp_tree.specs.declared.indexed.Index.{Index}
use Rattle.dp_tree.specs.declared.tree.Function.{Function}

-- the number of the first of these functions whose name is this one in lower case
abbrev pub first_of : List Function → List ℕ → Option ℕ
first_of functions lower = position (λ f. bytes_eq lower (str_to_ascii_lowercase f.name)) functions

-- names with numbers, of which each is that of the first function of the name
pub record IsIndex (functions : List Function) (firsts : List (List ℕ × ℕ)) : Type 0 where
  pub finds : (lower : List ℕ) → lookup (bytes_eq lower) firsts ≡ first_of functions lower

-- with this number for a name, unless it has one
abbrev pub with_first : List (List ℕ × ℕ) → List ℕ → ℕ → List (List ℕ × ℕ)
with_first firsts lower number =
    if is_some (lookup (bytes_eq lower) firsts) then firsts else firsts ++ (lower, number) ∷ []

-- each file has its index
abbrev pub AreIndexed : List BundleFile → List Index → Type 0
AreIndexed files indexes =
    AllZip (λ file index. IsIndex file.tree.functions index.firsts.entries) files indexes
