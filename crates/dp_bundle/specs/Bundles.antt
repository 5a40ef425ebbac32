-- The files of a program: which bundle they make, and why they make none.
use Rattle.std.specs.Prelude.{◌≡◌, ◌≢◌, ◌⊎◌, ℕ, suc, ◌<◌, ◌≤◌, List, [], ◌∷◌, length, map, Result, Ok, Err, ⊤}
use Rattle.dp_parse.specs.declared.errors.ParseError.TheVariants as parse_error
use Rattle.dp_parse.specs.Programs.{IsFile, IsNoFile}
use Rattle.dp_tree.specs.declared.bundle.Bundle.{Bundle}
use Rattle.dp_tree.specs.FileNames.{file_limit, AreFileNames}
use Rattle.dp_bundle.specs.declared.errors.BundleError.{BundleError}
use Rattle.dp_bundle.specs.declared.errors.BundleError.TheVariants.{Source, TooLong, Memory}
use Rattle.dp_tree.specs.declared.bundle.BundleFile.{BundleFile}

-- a name and a text
abbrev pub Given : Type 0
Given = List ℕ × List ℕ

-- what files have of which a bundle can be made
abbrev pub AreForBundle : List Given → Type 0
AreForBundle files = AreFileNames (map (λ file. file.0) files)

-- a file of a bundle has the name and the text that were given, and the tree of the text
pub record IsBundleFile (given : Given) (file : BundleFile) : Type 0 where
  pub named : file.name ≡ given.0
  pub spelled : file.text ≡ given.1
  pub short : length given.1 ≤ file_limit
  pub tree : IsFile given.1 file.tree

-- why the file of this number is refused
abbrev pub IsRefused : ℕ → List ℕ → BundleError → Type 0
IsRefused number text (Source file why) =
    (file ≡ number) × (length text ≤ file_limit) × (why ≢ parse_error.Memory) × IsNoFile text why
IsRefused number text (TooLong file) = (file ≡ number) × (file_limit < length text)
IsRefused number text Memory = ⊥

-- What files make, of which the first has this number: all their files of a bundle in order, or the
-- refusal of the first that is refused.
abbrev pub MakesFrom : ℕ → List Given → Result (List BundleFile) BundleError → Type 0
MakesFrom number [] (Ok []) = ⊤
MakesFrom number [] (Ok (made ∷ rest)) = ⊥
MakesFrom number [] (Err why) = ⊥
MakesFrom number (given ∷ more) (Ok []) = ⊥
MakesFrom number (given ∷ more) (Ok (made ∷ rest)) =
    IsBundleFile given made × MakesFrom (suc number) more (Ok rest)
MakesFrom number (given ∷ more) (Err why) =
    IsRefused number given.1 why
    ⊎ (((made : BundleFile) × IsBundleFile given made) × MakesFrom (suc number) more (Err why))

-- the files of a bundle, or the refusal
abbrev pub files_in : Result Bundle BundleError → Result (List BundleFile) BundleError
files_in (Ok bundle) = Ok bundle.files
files_in (Err why) = Err why

-- what files make: a bundle, or the refusal of the first that is refused
abbrev pub Makes : List Given → Result Bundle BundleError → Type 0
Makes files result = MakesFrom 0 files (files_in result)

-- a result is this one, or memory ran out
abbrev pub IsAnswer : Result Bundle BundleError → Result Bundle BundleError → Type 0
IsAnswer asked result = (result ≡ asked) ⊎ (result ≡ Err Memory)
