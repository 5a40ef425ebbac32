-- The command `engine`: what it does, and why it fails.
use Rattle.std.specs.Prelude.{◌≡◌, ◌⊎◌, ℕ, List, [], Ok, Err}
use Rattle.dp_outside.specs.Changes.{Change, IsUntouched}
use Rattle.dp_tree.specs.declared.bundle.Bundle.{Bundle}
use Rattle.dp_engine.specs.declared.service.Served.{Served}
use Rattle.dp_engine.specs.Service.{Serves}
use Rattle.dp_program.specs.declared.errors.ProgramError.{ProgramError}
use Rattle.dp_program.specs.Programs.{NamesMake, ProgramCaused}
use Rattle.dp_top.specs.declared.failures.Failure.{Failure}
use Rattle.dp_top.specs.declared.failures.Failure.TheVariants as failure
use Rattle.dp_words.specs.Words.{Address, Invocation}
use Rattle.dp_top.specs.Links.{IsDialled, IsUndialled}
use Rattle.dp_top.specs.Runs.{IsProgramReported}
use Rattle.dp_top.specs.Seen.{Seen, changed}
use Rattle.dp_top.specs.Talk.{EndReport, judged_by}

-- a fault of the link is one of the network
abbrev pub judged : Invocation → Served → EndReport
judged ask served = judged_by failure.Network ask served.outcome served.end

-- it does not use these
pub record IsApart (old new : Seen) : Type 0 where
  pub input : IsUntouched (changed old.input new.input)
  pub err : IsUntouched (changed old.err new.err)

-- the session of this key over the program was served so, over a link that was dialled; the
-- program's own output goes to `out`
pub record IsServed (served : Served) (address : Address) (key : List ℕ) (ask : Invocation)
    (old new : Seen) : Type 0 where
  pub program : Bundle
  pub made : NamesMake old.shelf.files ask.names (Ok program)
  pub source : Change
  pub sink : Change
  pub dialled : IsDialled address source sink old.net new.net
  pub serves : Serves served program ask.bound key source sink (changed old.out new.out)
  pub apart : IsApart old new

-- it went well, with this status
pub record Engages (status : ℕ) (address : Address) (key : List ℕ) (ask : Invocation)
    (old new : Seen)
    : Type 0 where
  pub served : Served
  pub is : IsServed served address key ask old new
  pub reported : judged ask served ≡ Ok status

-- nothing was dialled, and nothing written
pub record IsIdle (old new : Seen) : Type 0 where
  pub net : new.net ≡ old.net
  pub out : IsUntouched (changed old.out new.out)
  pub apart : IsApart old new

-- there is no program
pub record IsUnserved (why : Failure) (name : List ℕ) (ask : Invocation)
    (old new : Seen) : Type 0 where
  pub cause : ProgramError
  pub caused : ProgramCaused cause old.shelf.files old.shelf.faults new.shelf.faults ask.names
  pub reported : IsProgramReported why name ask cause
  pub idle : IsIdle old new

-- the dial failed: the program did not run
pub record IsUnlinked (address : Address) (ask : Invocation) (old new : Seen) : Type 0 where
  pub program : Bundle
  pub made : NamesMake old.shelf.files ask.names (Ok program)
  pub undialled : IsUndialled address old.net new.net
  pub out : IsUntouched (changed old.out new.out)
  pub apart : IsApart old new

-- which is reported as the network's failure, with no name
abbrev pub FailsUnlinked : Failure → List ℕ → Address → Invocation → Seen → Seen → Type 0
FailsUnlinked why name address ask old new =
    (why ≡ failure.Network) × (name ≡ []) × IsUnlinked address ask old new

-- the session was served, and its end is this failure
pub record EndsSo (why : Failure) (name : List ℕ) (address : Address) (key : List ℕ)
    (ask : Invocation)
    (old new : Seen) : Type 0 where
  pub served : Served
  pub is : IsServed served address key ask old new
  pub reported : judged ask served ≡ Err (why, name)

-- the link was dialled, and came back unused: memory ran out before the session began
pub record IsUnused (address : Address) (old new : Seen) : Type 0 where
  pub source : Change
  pub sink : Change
  pub source_stays : IsUntouched source
  pub sink_stays : IsUntouched sink
  pub dialled : IsDialled address source sink old.net new.net
  pub out : IsUntouched (changed old.out new.out)
  pub apart : IsApart old new

-- memory ran out before a link was dialled, before the session began, for the line on a failed
-- dial, or once it was served
abbrev pub IsStarved : Address → List ℕ → Invocation → Seen → Seen → Type 0
IsStarved address key ask old new =
    IsIdle old new ⊎ IsUnused address old new ⊎ IsUnlinked address ask old new
    ⊎ ((served : Served) × IsServed served address key ask old new)

-- why it failed
abbrev pub EngineFails : Failure → List ℕ → Address → List ℕ → Invocation → Seen → Seen → Type 0
EngineFails why name address key ask old new =
    ((why ≡ failure.Memory) × IsStarved address key ask old new)
    ⊎ IsUnserved why name ask old new ⊎ FailsUnlinked why name address ask old new
    ⊎ EndsSo why name address key ask old new
