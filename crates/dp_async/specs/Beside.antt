-- A session that listens to a source which another thread reads: what it heard of what was read.
use Rattle.std.specs.Prelude.{◌≡◌, ℕ, false, List, [], Option, Some, None}
use Rattle.std.specs.Io.KnownBytes.{Appends, Consumes}
use mathlib.Core.List.{IsPrefix}
use Rattle.atomic_table.specs.Seated.{TableId}
use Rattle.dp_outside.specs.Causes.{Rose}
use Rattle.dp_outside.specs.Changes.{Change, IsUntouched}
use Rattle.dp_outside.specs.declared.sources.Source as source_of
use Rattle.dp_tree.specs.declared.bundle.Bundle.{Bundle}
use Rattle.dp_engine.specs.declared.service.ServeEnd.{ServeEnd}
use Rattle.dp_engine.specs.declared.service.ServeEnd.TheVariants.{LinkEnd, ReadFault}
use Rattle.dp_engine.specs.declared.service.ServeEnd.TheVariants as end
use Rattle.dp_async.specs.declared.errors.AsyncError.{AsyncError}
use Rattle.dp_async.specs.declared.errors.AsyncError.TheVariants.{NoThread, Memory}
use Rattle.dp_async.specs.declared.service.AsyncServed.{AsyncServed}
use Rattle.dp_async.specs.Heard.{bytes_of}
use Rattle.dp_async.specs.Served.{Hears, Input}

-- ---- the source

-- the bytes that it still gives and those that it has given, and how often it has failed
pub record Flow : Type 0 where
  pub left : Option (List ℕ)
  pub given : Option (List ℕ)
  pub faults : ℕ

abbrev pub flow_of : {S : Type 0} → source_of.Ghosts S → S → Flow
flow_of s source =
    record { left = s.left source; given = s.given source; faults = s.faults source }

-- it gave these bytes, as far as it tells them
pub record Gives (before now : Flow) (bytes : List ℕ) : Type 0 where
  pub left : Consumes before.left now.left bytes
  pub given : Appends before.given now.given bytes

-- ---- what it heard

-- an input over a new post
abbrev pub new_input : TableId → Input
new_input post = record {
  left = None;
  given = Some [];
  over = Some false;
  post = Some post;
  faults = 0;
  looks = 0;
}

-- it came to the end of its input, or to its failure
abbrev pub EndsByInput : ServeEnd → Type 0
EndsByInput LinkEnd = Unit {0}
EndsByInput ReadFault = Unit {0}
EndsByInput other = ⊥

-- what it heard begins what was read, unless memory ran out
abbrev pub HeardFront : ServeEnd → List ℕ → List ℕ → Type 0
HeardFront end.Memory heard read = Unit {0}
HeardFront other heard read = IsPrefix heard read

-- The session heard what was read of the source, or a front of that; all of it where it came to the
-- end of its input or to its failure.
pub record Attends (served : AsyncServed) (bundle : Bundle) (bound : ℕ) (key : List ℕ)
    (before now : Flow) (sink out : Change) : Type 0 where
  pub post : TableId
  pub input : Input
  pub hears : Hears served bundle bound key (new_input post) input sink out
  pub bytes : List ℕ
  pub gives : Gives before now bytes
  pub front : HeardFront served.served.end (bytes_of served.log) bytes
  pub all : EndsByInput served.served.end → bytes_of served.log ≡ bytes
  pub failed : served.served.end ≡ ReadFault → Rose before.faults now.faults

-- Why there is none: no thread could be started for the reader, and nothing was read or written; or
-- memory ran out.
abbrev pub AttendsNot : AsyncError → ℕ → ℕ → Flow → Flow → Change → Change → Type 0
AttendsNot NoThread faults_before faults before now sink out =
    Rose faults_before faults × (now ≡ before) × IsUntouched sink × IsUntouched out
AttendsNot Memory faults_before faults before now sink out =
    (faults ≡ faults_before) × (bytes : List ℕ) × Gives before now bytes
