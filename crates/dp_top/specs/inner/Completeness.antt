-- How what the files make decides whether a run or a session fails by a bad source.
use Rattle.std.specs.Prelude.{◌≡◌, ◌≢◌, ◌⊎◌, ℕ, List, Result, Ok, Err, IfErr, MatchResult}
use Rattle.dp_outside.specs.Causes.{Rose}
use Rattle.dp_tree.specs.declared.bundle.Bundle.{Bundle}
use Rattle.dp_bundle.specs.declared.errors.BundleError.{BundleError}
use Rattle.dp_top.specs.declared.failures.Failure.{Failure}
use Rattle.dp_top.specs.declared.failures.Failure.TheVariants.{NoFile, Memory}
use Rattle.dp_top.specs.declared.failures.Refused.{Refused}
use Rattle.dp_program.specs.Programs.{FilesMake}
use Rattle.dp_words.specs.Words.{Invocation}
use Rattle.dp_events.specs.declared.event.Event.{Event}
use Rattle.dp_top.specs.Failures.{status_of}
use Rattle.dp_top.specs.Replay.{IsListFile}
use Rattle.dp_top.specs.Seen.{Seen}
use Rattle.dp_top.specs.Statuses.{source_status}

-- it is reported as a bad source, or memory ran out
abbrev pub IsBadSource : Failure → Type 0
IsBadSource failure = (status_of failure ≡ source_status) ⊎ (failure ≡ Memory)

-- it is no bad source, and no file that is lacking
abbrev pub IsGood : Failure → Type 0
IsGood failure = (status_of failure ≢ source_status) × (failure ≢ NoFile)

-- files that make a program are no bad source, and those that make none are one, unless the shelf
-- failed
abbrev pub IsComplete : {A : Type 0} → Result Bundle BundleError → Result A Refused → ℕ → ℕ → Type 0
IsComplete (Ok program) result before after =
    IfErr result (λ why. (status_of why.failure ≢ source_status) × (why.failure ≢ NoFile))
IsComplete (Err e) result before after =
    MatchResult result (λ _. ⊥) (λ why. IsBadSource why.failure ⊎ Rose before after)

-- likewise where the shelf tells the files of the program, and a list of events
pub record AreCompleteWith {A : Type 0} (events : List ℕ) (ask : Invocation)
    (result : Result A Refused)
    (old new : Seen) : Type 0 where
  pub by_files : (asked : Result Bundle BundleError) → FilesMake old.shelf.files ask.names asked
      → (list : List Event) → IsListFile old.shelf.files events list
      → IsComplete asked result old.shelf.faults new.shelf.faults

-- likewise where the shelf tells the files of the program
pub record AreComplete {A : Type 0} (ask : Invocation) (result : Result A Refused)
    (old new : Seen) : Type 0 where
  pub by_files : (asked : Result Bundle BundleError) → FilesMake old.shelf.files ask.names asked
      → IsComplete asked result old.shelf.faults new.shelf.faults
