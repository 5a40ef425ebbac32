-- One file after another, and the end of a run.
use Rattle.std.specs.Prelude.{◌≡◌, ◌⊎◌, ℕ, List, [], ◌∷◌, ◌++◌, Ok, Err, ⊤}
use Rattle.std.specs.Io.KnownBytes.{Appends}
use Rattle.dp_outside.specs.Causes.{Rose}
use Rattle.dp_outside.specs.Changes.{Change, IsUntouched}
use Rattle.dp_outside.specs.Files.{Fetches, Lacks}
use Rattle.dp_outside.specs.Streams.{AppendsFront}
use Rattle.dp_bundle.specs.Bundles.{Given}
use Rattle.dp_tree.specs.FileNames.{file_limit}
use Rattle.dp_tree.specs.declared.bundle.Bundle.{Bundle}
use Rattle.dp_state.specs.declared.moments.Outcome.{Outcome}
use Rattle.dp_meaning.specs.Trace.{outcome_of, plain}
use Rattle.dp_program.specs.declared.errors.ProgramError.{ProgramError}
use Rattle.dp_program.specs.declared.errors.ProgramError.TheVariants as none
use Rattle.dp_program.specs.declared.errors.RunError.{RunError}
use Rattle.dp_program.specs.declared.errors.RunError.TheVariants.{OutFault, Memory}
use Rattle.dp_program.specs.Programs.{Files}
use Rattle.dp_program.specs.Runs.{judged}

-- a file more was fetched
pub record IsNext (files : Files) (name : List ℕ) (before after : List Given) : Type 0 where
  pub content : List ℕ
  pub appended : after ≡ before ++ (name, content) ∷ []
  pub is_content : Fetches files name file_limit content

-- why the file of this number was not fetched
abbrev pub FetchCaused : ProgramError → ℕ → List ℕ → Files → ℕ → ℕ → Type 0
FetchCaused (none.Shelf file) number name files before after = (file ≡ number) × Rose before after
FetchCaused (none.Missing file) number name files before after = (file ≡ number) × Lacks files name
FetchCaused (none.TooLong file) number name files before after = ⊥
FetchCaused (none.Source file why) number name files before after = ⊥
FetchCaused none.Memory number name files before after = ⊤

-- what a program wrote was put, and it ended so
abbrev pub EndWritten : ℕ → Outcome → List ℕ → Change → Type 0
EndWritten status outcome output out =
    Appends out.told_before out.told output × (judged outcome ≡ Ok status)

-- what a program wrote was put and it ended so, or the output failed
abbrev pub EndFailed : RunError → Outcome → List ℕ → Change → Type 0
EndFailed why outcome output out =
    (Appends out.told_before out.told output × (judged outcome ≡ Err why))
    ⊎ ((why ≡ OutFault) × AppendsFront out.told_before out.told output
    × Rose out.faults_before out.faults)

-- the same of a run of this program
abbrev pub RunWrites : ℕ → Bundle → ℕ → Change → Type 0
RunWrites status program bound out =
    EndWritten status (outcome_of (plain program bound).end) (plain program bound).state.output out

abbrev pub RunFailed : RunError → Bundle → ℕ → Change → Type 0
RunFailed why program bound out =
    ((why ≡ Memory) × IsUntouched out)
    ⊎ EndFailed why (outcome_of (plain program bound).end) (plain program bound).state.output out
