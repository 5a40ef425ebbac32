-- The program of files that lie on a shelf: which it is, which files are asked for, and why there
-- is none.
use Rattle.std.specs.Prelude.{◌≡◌, ◌⊎◌, ℕ, ◌+◌, ◌<◌, Bool, true, false, List, [], length, map}
use Rattle.std.specs.Prelude.{take, All, get_or, Option, Result, Ok, Err, IsSome, IfErr}
use Rattle.std.specs.Prelude.{MatchResult, ⊤}
use Rattle.dp_outside.specs.Causes.{Rose}
use Rattle.dp_outside.specs.Files.{Fetches, Lacks}
use Rattle.dp_outside.specs.Reports.{grown}
use Rattle.dp_bundle.specs.Bundles.{Given, Makes}
use Rattle.dp_tree.specs.FileNames.{file_limit}
use Rattle.dp_tree.specs.declared.bundle.Bundle.{Bundle}
use Rattle.dp_bundle.specs.declared.errors.BundleError.{BundleError}
use Rattle.dp_bundle.specs.declared.errors.BundleError.TheVariants as unmade
use Rattle.dp_program.specs.declared.errors.ProgramError.{ProgramError}
use Rattle.dp_program.specs.declared.errors.ProgramError.TheVariants.{Shelf, Missing, TooLong, Source}
use Rattle.dp_program.specs.declared.errors.ProgramError.TheVariants.{Memory}

-- ---- the program

-- the names and contents of a shelf's files, where it tells them
abbrev pub Files : Type 0
Files = Option (List (List ℕ × List ℕ))

-- what was fetched: the files of these names, in order; of a file that is longer than one may be,
-- its front
pub record AreFetched (files : Files) (names : List (List ℕ)) (fetched : List Given) : Type 0 where
  pub named : map (λ file. file.0) fetched ≡ names
  pub contents : All (λ file. Fetches files file.0 file_limit file.1) fetched

-- what the files of these names make: a program, or the refusal of the first that is refused
pub record NamesMake (files : Files) (names : List (List ℕ))
    (made : Result Bundle BundleError) : Type 0
  where
    pub fetched : List Given
    pub are : AreFetched files names fetched
    pub makes : Makes fetched made

-- the shelf tells its files, and those of these names make this
pub record FilesMake (files : Files) (names : List (List ℕ))
    (made : Result Bundle BundleError) : Type 0
  where
    pub tells : IsSome files
    pub make : NamesMake files names made

-- ---- why there is none

-- the files before that of this number were fetched, and it came next
pub record Comes (files : Files) (names : List (List ℕ)) (file : ℕ) : Type 0 where
  pub below : file < length names
  pub before : List Given
  pub are : AreFetched files (take file names) before

-- why the files of these names were not fetched, or make no program
abbrev pub ProgramCaused : ProgramError → Files → ℕ → ℕ → List (List ℕ) → Type 0
ProgramCaused (Shelf file) files before after names = Comes files names file × Rose before after
ProgramCaused (Missing file) files before after names =
    Comes files names file × Lacks files (get_or names file [])
ProgramCaused (TooLong file) files before after names =
    NamesMake files names (Err (unmade.TooLong file))
ProgramCaused (Source file why) files before after names =
    NamesMake files names (Err (unmade.Source file why))
ProgramCaused Memory files before after names = ⊤

-- ---- which files are asked for

-- the names that a shelf was asked for, where it tells them
abbrev pub RequestedNames : Type 0
RequestedNames = Option (List (List ℕ))

-- These names were asked for, each once, in their order, and no other: all of them, or those up to
-- the file that was not fetched. Where memory ran out it may have been any number of them.
abbrev pub RequestsFiles : {A : Type 0} → Result A ProgramError → RequestedNames → RequestedNames
    → List (List ℕ) → Type 0
RequestsFiles (Ok a) before after names = after ≡ grown before names
RequestsFiles (Err (Shelf file)) before after names = after ≡ grown before (take (file + 1) names)
RequestsFiles (Err (Missing file)) before after names = after ≡ grown before (take (file + 1) names)
RequestsFiles (Err (TooLong file)) before after names = after ≡ grown before names
RequestsFiles (Err (Source file why)) before after names = after ≡ grown before names
RequestsFiles (Err Memory) before after names =
    (count : ℕ) × (after ≡ grown before (take count names))

-- ---- completeness

-- whether it tells of a file that is lacking or refused
abbrev pub is_bad_file : ProgramError → Bool
is_bad_file (Shelf file) = false
is_bad_file (Missing file) = true
is_bad_file (TooLong file) = true
is_bad_file (Source file why) = true
is_bad_file Memory = false

-- the failure that a refusal is
abbrev pub refusal : BundleError → ProgramError
refusal (unmade.Source file why) = Source file why
refusal (unmade.TooLong file) = TooLong file
refusal unmade.Memory = Memory

-- Where the files make a program, none is reported as bad; where they make a refusal, that is
-- reported, unless the shelf or memory failed.
abbrev pub IsComplete : {A : Type 0} → Result Bundle BundleError → Result A ProgramError → ℕ → ℕ
    → Type 0
IsComplete (Ok program) result before after = IfErr result (λ why. is_bad_file why ≡ false)
IsComplete (Err e) result before after =
    MatchResult result (λ _. ⊥) (λ why. (why ≡ refusal e) ⊎ (why ≡ Memory) ⊎ Rose before after)

-- ---- in two steps: the files are fetched, and then they make a program

-- no file was read yet
abbrev pub IsUnread : ProgramError → Type 0
IsUnread (TooLong file) = ⊥
IsUnread (Source file why) = ⊥
IsUnread why = ⊤

-- why fetched files make no program
abbrev pub IsUnmade : List Given → ProgramError → Type 0
IsUnmade fetched why =
    (why ≡ Memory) ⊎ ((e : BundleError) × Makes fetched (Err e) × (why ≡ refusal e))

-- what fetched files make is answered, or memory ran out
abbrev pub IsRefused : {A : Type 0} → Result Bundle BundleError → Result A ProgramError → Type 0
IsRefused (Ok program) result = IfErr result (λ why. is_bad_file why ≡ false)
IsRefused (Err e) result =
    MatchResult result (λ _. ⊥) (λ why. (why ≡ refusal e) ⊎ (why ≡ Memory))
