-- Functions that are declared, by the files in which they stand.
use Rattle.std.specs.Prelude.{ℕ, nat_lt, if◌then◌else◌, List, [], ◌∷◌, ◌++◌, Option, Some, None}
use Rattle.dp_tree.specs.declared.bundle.FunctionRef.{FunctionRef}
use Rattle.dp_tree.specs.Files.{first_functions}
use Rattle.dp_state.specs.declared.declarations.Part.{Part}

-- the functions of these parts, in order
abbrev pub functions_in : List Part → List FunctionRef
functions_in [] = []
functions_in (part ∷ parts) = first_functions part.file part.count ++ functions_in parts

-- the function with the number that was found, if it is among those of this part
abbrev pub reference_in : Part → Option ℕ → Option FunctionRef
reference_in part None = None
reference_in part (Some number) =
    if nat_lt number part.count then Some (record { file = part.file; function = number }) else None
