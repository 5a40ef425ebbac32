-- The command `replay`: what it does, and why it fails.
use Rattle.std.specs.Prelude.{◌≡◌, ◌⊎◌, ℕ, ◌≤◌, List, [], length, Result, Ok, Err}
use Rattle.dp_outside.specs.Changes.{Change, IsUntouched}
use Rattle.dp_outside.specs.Files.{Fetches}
use Rattle.dp_bundle.specs.Bundles.{Given}
use Rattle.dp_tree.specs.declared.bundle.Bundle.{Bundle}
use Rattle.dp_events.specs.declared.event.Event.{Event}
use Rattle.dp_events.specs.Lists.{IsFirstBad, IsList}
use Rattle.dp_program.specs.declared.errors.ProgramError.{ProgramError}
use Rattle.dp_program.specs.declared.errors.ProgramError.TheVariants as none
use Rattle.dp_program.specs.Programs.{AreFetched, Files, NamesMake, ProgramCaused}
use Rattle.dp_world.specs.declared.errors.ReplayError.{ReplayError}
use Rattle.dp_world.specs.declared.errors.ReplayError.TheVariants as ends
use Rattle.dp_top.specs.Engines.{engines_of}
use Rattle.dp_world.specs.Replays.{Replays}
use Rattle.dp_top.specs.declared.failures.Failure.{Failure}
use Rattle.dp_top.specs.declared.failures.Failure.TheVariants as failure
use Rattle.dp_words.specs.Words.{Invocation}
use Rattle.dp_top.specs.Lines.{IsBadFile, Unread, lines_limit}
use Rattle.dp_top.specs.Runs.{IsProgramReported}

-- ---- the list of events

-- the file is a list of these events
pub record IsListFile (files : Files) (name : List ℕ) (events : List Event) : Type 0 where
  pub content : List ℕ
  pub fetched : Fetches files name lines_limit content
  pub fits : length content ≤ lines_limit
  pub is_list : IsList content events

-- the file is no list, from this line on
abbrev pub IsNoList : Files → List ℕ → ℕ → Type 0
IsNoList files name line = IsBadFile IsFirstBad files name line

-- ---- what it does

-- the list of this name was replayed over the program, and ended so
pub record IsReplayed (end : Result (Unit {0}) ReplayError) (name : List ℕ) (ask : Invocation)
    (files : Files) (out : Change) : Type 0 where
  pub events : List Event
  pub held : IsListFile files name events
  pub program : Bundle
  pub made : NamesMake files ask.names (Ok program)
  pub replays : Replays end (engines_of program ask.bound) events out

abbrev pub DoesReplay : ℕ → List ℕ → Invocation → Files → Change → Type 0
DoesReplay status events ask files out =
    (status ≡ 0) × IsReplayed (Ok tt) events ask files out

-- ---- why it fails

-- the list is fetched before the files of the program are, and read before one of them is refused
abbrev pub ReadBefore : ProgramError → Files → List ℕ → Type 0
ReadBefore (none.Shelf file) files name =
    (content : List ℕ) × Fetches files name lines_limit content
ReadBefore (none.Missing file) files name =
    (content : List ℕ) × Fetches files name lines_limit content
ReadBefore (none.TooLong file) files name = (events : List Event) × IsListFile files name events
ReadBefore (none.Source file why) files name =
    (events : List Event) × IsListFile files name events
ReadBefore none.Memory files name = Unit {0}

-- there is no program
pub record IsUnreplayed (why : Failure) (name events : List ℕ) (ask : Invocation) (files : Files)
    (before after : ℕ) : Type 0 where
  pub cause : ProgramError
  pub caused : ProgramCaused cause files before after ask.names
  pub read : ReadBefore cause files events
  pub reported : IsProgramReported why name ask cause

-- the files of the program are fetched before a line of the list is refused
abbrev pub FetchedBefore : Failure → Invocation → Files → Type 0
FetchedBefore (failure.Script line) ask files =
    (fetched : List Given) × AreFetched files ask.names fetched
FetchedBefore why ask files = Unit {0}

-- there is no list
pub record IsUnlisted (why : Failure) (name events : List ℕ) (ask : Invocation) (files : Files)
    (before after : ℕ) : Type 0 where
  pub unread : Unread IsFirstBad why name events files before after
  pub fetched : FetchedBefore why ask files

-- the output failed
pub record IsCutShort (why : Failure) (name events : List ℕ) (ask : Invocation) (files : Files)
    (out : Change) : Type 0 where
  pub is_why : why ≡ failure.Output
  pub is_name : name ≡ []
  pub replayed : IsReplayed (Err ends.OutFault) events ask files out

-- memory ran out before anything was put, or once the list was replayed, to whatever end
abbrev pub IsStarved : List ℕ → Invocation → Files → Change → Type 0
IsStarved events ask files out =
    IsUntouched out
    ⊎ ((end : Result (Unit {0}) ReplayError) × IsReplayed end events ask files out)

-- why it failed
abbrev pub ReplayFails : Failure → List ℕ → List ℕ → Invocation → Files → ℕ → ℕ → Change → Type 0
ReplayFails why name events ask files before after out =
    ((why ≡ failure.Memory) × IsStarved events ask files out)
    ⊎ (IsUnlisted why name events ask files before after × IsUntouched out)
    ⊎ (IsUnreplayed why name events ask files before after × IsUntouched out)
    ⊎ IsCutShort why name events ask files out
