-- What a shelf of files answers, where it tells its files as a list of names and contents.
use Rattle.std.specs.Prelude.{◌≡◌, ◌+◌, ℕ, List, [], ◌∷◌, Bool, true, false, Result, Ok, Err, map, take, ⊤, None, Some, if◌then◌else◌, nat_eq, String, Vec, string_bytes}
use Rattle.std.specs.declared.alloc.Global.{Global}
use Rattle.dp_outside.specs.declared.shelves.ShelfError.{ShelfError}
use Rattle.dp_outside.specs.declared.shelves.ShelfError.TheVariants.{Failed, Missing, Memory}
use lib.Pointwise.{pointwise}
use Rattle.std.specs.declared.option.Option.{Option}

-- the content of the first file with this name
abbrev pub content_of : List ℕ → List (List ℕ × List ℕ) → Option (List ℕ)
content_of name [] = None
content_of name (file ∷ files) =
    if pointwise nat_eq file.0 name then Some file.1 else content_of name files

-- what a list of files tells: their names and contents
abbrev pub contents_of : List (String Global × Vec ℕ Global) → List (List ℕ × List ℕ)
contents_of files = map (λ file. (string_bytes file.0, file.1.items)) files

-- the first limit + 1 bytes of the file, or the whole file where it is shorter
abbrev pub Fetches : Option (List (List ℕ × List ℕ)) → List ℕ → ℕ → List ℕ → Type 0
Fetches None name limit bytes = ⊤
Fetches (Some files) name limit bytes =
    (content : List ℕ) × (content_of name files ≡ Some content) × (bytes ≡ take (limit + 1) content)

-- no file has this name
abbrev pub Lacks : Option (List (List ℕ × List ℕ)) → List ℕ → Type 0
Lacks None name = ⊤
Lacks (Some files) name = content_of name files ≡ None

-- whether the shelf failed
abbrev pub has_failed : {T : Type 0} → Result T ShelfError → Bool
has_failed (Ok bytes) = false
has_failed (Err Failed) = true
has_failed (Err Missing) = false
has_failed (Err Memory) = false
