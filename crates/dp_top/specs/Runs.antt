-- What is reported of the end of a run, and of files that make no program.
use Rattle.std.specs.Prelude.{◌≡◌, ◌⊎◌, ℕ, List, [], get_or, take, Option, None, Some}
use Rattle.dp_outside.specs.Changes.{Change}
use Rattle.dp_outside.specs.Reports.{grown}
use Rattle.dp_program.specs.declared.errors.ProgramError.{ProgramError}
use Rattle.dp_program.specs.declared.errors.ProgramError.TheVariants as none
use Rattle.dp_program.specs.declared.errors.RunError.{RunError}
use Rattle.dp_program.specs.declared.errors.RunError.TheVariants as run
use Rattle.dp_program.specs.Programs.{Files, RequestedNames}
use Rattle.dp_program.specs.Runs.{RunCaused}
use Rattle.dp_top.specs.declared.failures.Failure.{Failure}
use Rattle.dp_top.specs.declared.failures.Failure.TheVariants.{TooLong, ShelfFailed, NoFile, Fatal, Bound, Output, Memory}
use Rattle.dp_words.specs.Words.{Invocation}
use Rattle.dp_top.specs.Sources.{failure_of as failure_of_source}

-- the name of the file of a number, from 0; nothing where there is none
abbrev pub name_at : List (List ℕ) → ℕ → List ℕ
name_at names number = get_or names number []

-- ---- files that make no program

-- the failure that it is
abbrev pub program_failure : ProgramError → Failure
program_failure (none.Shelf file) = ShelfFailed
program_failure (none.Missing file) = NoFile
program_failure (none.TooLong file) = TooLong
program_failure (none.Source file why) = failure_of_source why
program_failure none.Memory = Memory

-- the name of the file that it is of, where it is of one, else nothing
abbrev pub program_name : List (List ℕ) → ProgramError → List ℕ
program_name names (none.Shelf file) = name_at names file
program_name names (none.Missing file) = name_at names file
program_name names (none.TooLong file) = name_at names file
program_name names (none.Source file why) = name_at names file
program_name names none.Memory = []

abbrev pub IsProgramReported : Failure → List ℕ → Invocation → ProgramError → Type 0
IsProgramReported failure name ask why =
    (failure ≡ program_failure why) × (name ≡ program_name ask.names why)

-- Of these names files are fetched, each once, in their order: all, or the first of them.
abbrev pub AreFetched : List (List ℕ) → RequestedNames → RequestedNames → Type 0
AreFetched names before after = (count : ℕ) × (after ≡ grown before (take count names))

-- Only files of a program that is asked for are fetched. Where no program is asked for nothing is
-- fetched.
abbrev pub IsFetched : Option Invocation → RequestedNames → RequestedNames → Type 0
IsFetched None before after = after ≡ before
IsFetched (Some ask) before after = AreFetched ask.names before after

-- ---- the end of a run

-- the failure that it is
abbrev pub failure_of : ℕ → RunError → Failure
failure_of bound (run.Program why) = program_failure why
failure_of bound (run.Fatal kind file line) = Fatal kind line
failure_of bound run.Bound = Bound bound
failure_of bound run.OutFault = Output
failure_of bound run.Memory = Memory

-- the name of the file that it is of, where it is of one, else nothing
abbrev pub reported_name : List (List ℕ) → RunError → List ℕ
reported_name names (run.Program why) = program_name names why
reported_name names (run.Fatal kind file line) = name_at names file
reported_name names run.Bound = []
reported_name names run.OutFault = []
reported_name names run.Memory = []

abbrev pub IsRunReported : Failure → List ℕ → Invocation → RunError → Type 0
IsRunReported failure name ask why =
    (failure ≡ failure_of ask.bound why) × (name ≡ reported_name ask.names why)

-- it is reported so, or memory ran out for its line
abbrev pub IsReportedOrStarved : Failure → List ℕ → Invocation → RunError → Type 0
IsReportedOrStarved failure name ask why =
    IsRunReported failure name ask why ⊎ ((failure ≡ Memory) × (name ≡ []))

-- why the run failed, as it is reported
pub record RunFails (failure : Failure) (name : List ℕ) (files : Files) (before after : ℕ)
    (ask : Invocation) (out : Change) : Type 0 where
  pub why : RunError
  pub caused : RunCaused why files before after ask.names ask.bound out
  pub reported : IsReportedOrStarved failure name ask why
