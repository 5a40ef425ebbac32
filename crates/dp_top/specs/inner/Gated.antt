-- What the code tells of a script that is played over a link that another machine makes.
use Rattle.std.specs.Prelude.{◌≡◌, ℕ, ◌+◌, ◌<◌, ◌≤◌, Bool, true, false, List, [], ◌∷◌, length, Option, None, Some, Result, Ok, Err}
use Rattle.dp_outside.specs.Changes.{Change, IsUntouched}
use Rattle.dp_outside.specs.Links.{Link}
use Rattle.dp_ide.specs.declared.errors.IdeError.{IdeError}
use Rattle.dp_ide.specs.declared.instruction.Instruction.{Instruction}
use Rattle.dp_ide.specs.Plays.{Ends}
use Rattle.dp_top.specs.declared.failures.Failure.{Failure}
use Rattle.dp_top.specs.declared.failures.Failure.TheVariants as failure
use Rattle.dp_ide.specs.Scripts.{IsScript}
use Rattle.dp_top.specs.Ide.{failure_of}
use Rattle.dp_top.specs.Lines.{lines_limit}
use Rattle.dp_top.specs.Links.{IsAccepted, IsUncalled, IsUsed, Reports}
use Rattle.dp_top.specs.Seen.{Net}

-- ---- the script

-- the bytes are a script, and not too many
pub record IsWholeScript (bytes : List ℕ) (instructions : List Instruction) : Type 0 where
  pub fits : length bytes ≤ lines_limit
  pub is_script : IsScript bytes instructions

-- ---- the link

-- what a gate tells, and how often it and what came back to it failed
pub record DoorSeen : Type 0 where
  pub accepts : Option (List Bool)
  pub accepted : Option (List Link)
  pub retired : Option (List Link)
  pub faults : ℕ
  pub returned : ℕ

-- a new gate was asked for one link, and gave none
pub record NoCall (door : DoorSeen) (out : Change) : Type 0 where
  pub accepts : Reports door.accepts (false ∷ [])
  pub gave : Reports door.accepted []
  pub took : Reports door.retired []
  pub failed : 0 < door.faults
  pub out_stays : IsUntouched out

-- a new gate was asked for one link and gave it; over it the script was played; the gate took it
-- back
pub record Called (end : Result (Unit {0}) IdeError) (instructions : List Instruction)
    (door : DoorSeen) (out : Change) : Type 0 where
  pub given : Link
  pub back : Link
  pub source : Change
  pub sink : Change
  pub used : IsUsed given back source sink
  pub accepts : Reports door.accepts (true ∷ [])
  pub gave : Reports door.accepted (given ∷ [])
  pub took : Reports door.retired (back ∷ [])
  pub counted : 0 < source.faults + sink.faults → 0 < door.faults + door.returned
  pub ends : Ends instructions end source sink out

abbrev pub MetSo : Option (Result (Unit {0}) IdeError) → List Instruction → DoorSeen → Change
    → Type 0
MetSo None instructions door out = NoCall door out
MetSo (Some end) instructions door out = Called end instructions door out

-- likewise of a gate that a network opened and shut
pub record PlayedSo (end : Result (Unit {0}) IdeError) (port : ℕ) (instructions : List Instruction)
    (out : Change) (old new : Net) : Type 0 where
  pub source : Change
  pub sink : Change
  pub accepted : IsAccepted port source sink old new
  pub ends : Ends instructions end source sink out

abbrev pub GatedSo : Option (Result (Unit {0}) IdeError) → ℕ → List Instruction → Change → Net
    → Net → Type 0
GatedSo None port instructions out old new = IsUncalled port old new × IsUntouched out
GatedSo (Some end) port instructions out old new = PlayedSo end port instructions out old new

-- the failure that is reported
abbrev pub IsReportedBy : Option (Result (Unit {0}) IdeError) → Failure → Type 0
IsReportedBy None why = why ≡ failure.Network
IsReportedBy (Some (Ok u)) why = ⊥
IsReportedBy (Some (Err end)) why = why ≡ failure_of end
