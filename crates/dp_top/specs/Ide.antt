-- The command `ide`: what it does, and why it fails.
use Rattle.std.specs.Prelude.{◌≡◌, ◌⊎◌, ℕ, ◌≤◌, List, [], length, Result, Ok, Err}
use Rattle.dp_outside.specs.Changes.{Change, IsUntouched}
use Rattle.dp_outside.specs.Files.{Fetches}
use Rattle.dp_program.specs.Programs.{Files}
use Rattle.dp_ide.specs.declared.errors.IdeError.{IdeError}
use Rattle.dp_ide.specs.declared.errors.IdeError.TheVariants as ends
use Rattle.dp_ide.specs.declared.instruction.Instruction.{Instruction}
use Rattle.dp_ide.specs.Scripts.{IsFirstBad, IsScript}
use Rattle.dp_ide.specs.Plays.{Ends}
use Rattle.dp_top.specs.declared.failures.Failure.{Failure}
use Rattle.dp_top.specs.declared.failures.Failure.TheVariants as failure
use Rattle.dp_top.specs.Engine.{IsApart, IsIdle}
use Rattle.dp_top.specs.Links.{IsAccepted, IsUncalled}
use Rattle.dp_top.specs.Lines.{IsBadFile, Unread, lines_limit}
use Rattle.dp_top.specs.Seen.{Seen, changed}

-- ---- the script

-- the file is a script of these instructions
pub record IsScriptFile (files : Files) (name : List ℕ) (instructions : List Instruction) : Type 0
  where
    pub content : List ℕ
    pub fetched : Fetches files name lines_limit content
    pub fits : length content ≤ lines_limit
    pub is_script : IsScript content instructions

-- the file is no script, from this line on
abbrev pub IsNoScript : Files → List ℕ → ℕ → Type 0
IsNoScript files name line = IsBadFile IsFirstBad files name line

-- ---- what it does

-- the script was played over the one link of one gate, and ended so
pub record IsPlayed (end : Result (Unit {0}) IdeError) (port : ℕ) (script : List ℕ)
    (old new : Seen) : Type 0 where
  pub instructions : List Instruction
  pub held : IsScriptFile old.shelf.files script instructions
  pub source : Change
  pub sink : Change
  pub accepted : IsAccepted port source sink old.net new.net
  pub ends : Ends instructions end source sink (changed old.out new.out)
  pub apart : IsApart old new

abbrev pub Plays : ℕ → ℕ → List ℕ → Seen → Seen → Type 0
Plays status port script old new = (status ≡ 0) × IsPlayed (Ok tt) port script old new

-- ---- why it fails

-- the failure that an end of playing is
abbrev pub failure_of : IdeError → Failure
failure_of (ends.BadScript line) = failure.Script line
failure_of (ends.Differs line wanted found) = failure.Differs line wanted found
failure_of ends.PeerEnd = failure.PeerEnd
failure_of (ends.BadPacket offset) = failure.Packet offset
failure_of ends.ReadFault = failure.Network
failure_of ends.WriteFault = failure.Network
failure_of ends.OutFault = failure.Output
failure_of ends.Memory = failure.Memory

-- there is a script, and no link came
pub record IsUnmet (port : ℕ) (script : List ℕ) (old new : Seen) : Type 0 where
  pub instructions : List Instruction
  pub held : IsScriptFile old.shelf.files script instructions
  pub uncalled : IsUncalled port old.net new.net
  pub out : IsUntouched (changed old.out new.out)
  pub apart : IsApart old new

-- it was played, and its end is this failure
pub record EndsSo (why : Failure) (name : List ℕ) (port : ℕ) (script : List ℕ) (old new : Seen)
    : Type 0 where
  pub end : IdeError
  pub played : IsPlayed (Err end) port script old new
  pub is_why : why ≡ failure_of end
  pub is_name : name ≡ []

-- memory ran out before a gate was opened, for the line on a link that did not come, or once the
-- script was played
abbrev pub IsStarved : ℕ → List ℕ → Seen → Seen → Type 0
IsStarved port script old new =
    IsIdle old new ⊎ IsUnmet port script old new
    ⊎ ((end : Result (Unit {0}) IdeError) × IsPlayed end port script old new)

-- no link came, which is reported as the network's failure, with no name
abbrev pub FailsUnmet : Failure → List ℕ → ℕ → List ℕ → Seen → Seen → Type 0
FailsUnmet why name port script old new =
    (why ≡ failure.Network) × (name ≡ []) × IsUnmet port script old new

-- why it failed
abbrev pub IdeFails : Failure → List ℕ → ℕ → List ℕ → Seen → Seen → Type 0
IdeFails why name port script old new =
    ((why ≡ failure.Memory) × IsStarved port script old new)
    ⊎ (Unread IsFirstBad why name script old.shelf.files old.shelf.faults new.shelf.faults
    × IsIdle old new)
    ⊎ FailsUnmet why name port script old new ⊎ EndsSo why name port script old new
