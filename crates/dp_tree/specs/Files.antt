-- The files of a bundle by their names, and their functions by their numbers.
use Rattle.std.specs.Prelude.{ℕ, zero, suc, List, [], ◌∷◌, ◌++◌, length, Option, None, position, slice_get}
use Rattle.std.specs.Option.{option_map_or}
use Rattle.std.specs.Str.{bytes_eq, str_eq_ignore_ascii_case}
use Rattle.dp_tree.specs.declared.tree.Function.{Function}
use Rattle.dp_tree.specs.declared.bundle.Bundle.{Bundle}
use Rattle.dp_tree.specs.declared.bundle.FunctionRef.{FunctionRef}

-- the number of the file of this name
abbrev pub file_named : Bundle → List ℕ → Option ℕ
file_named bundle name = position (λ file. bytes_eq file.name name) bundle.files

-- the function that a reference names
abbrev pub function_at : Bundle → FunctionRef → Option Function
function_at bundle reference =
    option_map_or (λ file. slice_get file.tree.functions reference.function)
    (slice_get bundle.files reference.file) None

-- how many functions the file of this number has
abbrev pub function_count : Bundle → ℕ → ℕ
function_count bundle file =
    option_map_or (λ f. length f.tree.functions) (slice_get bundle.files file) 0

-- so many functions of a file, in order
abbrev pub first_functions : ℕ → ℕ → List FunctionRef
first_functions file zero = []
first_functions file (suc n) = first_functions file n ++ (record { file = file; function = n }) ∷ []

-- the functions of a file, in order
abbrev pub functions_of : Bundle → ℕ → List FunctionRef
functions_of bundle file = first_functions file (function_count bundle file)

-- the number of the first function of this name in the file of this number, in any case of letters
abbrev pub function_named : Bundle → ℕ → List ℕ → Option ℕ
function_named bundle file name =
    option_map_or (λ f. position (λ g. str_eq_ignore_ascii_case name g.name) f.tree.functions)
    (slice_get bundle.files file) None
