-- The command `talk`: what it does, and why it fails.
use Rattle.std.specs.Prelude.{◌≡◌, ◌⊎◌, ℕ, List, [], Option, None, Some, Result, Ok, Err}
use Rattle.dp_outside.specs.Changes.{Change, IsUntouched}
use Rattle.dp_tree.specs.declared.bundle.Bundle.{Bundle}
use Rattle.dp_engine.specs.declared.service.ServeEnd.{ServeEnd}
use Rattle.dp_engine.specs.declared.service.ServeEnd.TheVariants.{Stopped, Detached, LinkEnd, ReadFault, WriteFault, OutFault, BadCommandFrame, ByteLimit, Memory}
use Rattle.dp_engine.specs.declared.service.Served.{Served}
use Rattle.dp_engine.specs.Service.{Serves}
use Rattle.dp_program.specs.declared.errors.RunError.{RunError}
use Rattle.dp_program.specs.declared.errors.ProgramError.{ProgramError}
use Rattle.dp_program.specs.Programs.{NamesMake, ProgramCaused}
use Rattle.dp_program.specs.Runs.{judged as judged_end}
use Rattle.dp_conversation.specs.Service.{byte_limit}
use Rattle.dp_state.specs.declared.moments.Outcome.{Outcome}
use Rattle.dp_top.specs.declared.failures.Failure.{Failure}
use Rattle.dp_top.specs.declared.failures.Failure.TheVariants as failure
use Rattle.dp_words.specs.Words.{Invocation}
use Rattle.dp_top.specs.Runs.{IsProgramReported, failure_of, reported_name}
use Rattle.dp_top.specs.Seen.{Seen, changed}

-- ---- what is reported of an end

-- a status, or a failure with the name of the file that it is of, where it is of one, else nothing
abbrev pub EndReport : Type 0
EndReport = Result ℕ (Failure × List ℕ)

abbrev pub unnamed : Failure → EndReport
unnamed why = Err (why, [])

-- the end of a run
abbrev pub end_report : Invocation → Result ℕ RunError → EndReport
end_report ask (Ok status) = Ok status
end_report ask (Err why) = Err (failure_of ask.bound why, reported_name ask.names why)

-- how a program ended; one that did not was stopped
abbrev pub ended : Invocation → Option Outcome → EndReport
ended ask None = unnamed failure.Stopped
ended ask (Some outcome) = end_report ask (judged_end outcome)

-- how serving a session ended, where a fault of the link's sink is this failure
abbrev pub judged_by : Failure → Invocation → Option Outcome → ServeEnd → EndReport
judged_by unsent ask outcome Stopped = ended ask outcome
judged_by unsent ask outcome Detached = ended ask outcome
judged_by unsent ask outcome LinkEnd = ended ask outcome
judged_by unsent ask outcome ReadFault = unnamed failure.Network
judged_by unsent ask outcome WriteFault = unnamed unsent
judged_by unsent ask outcome OutFault = unnamed failure.Output
judged_by unsent ask outcome (BadCommandFrame offset) = unnamed (failure.Packet offset)
judged_by unsent ask outcome ByteLimit = unnamed (failure.Packet byte_limit)
judged_by unsent ask outcome Memory = unnamed failure.Memory

-- over the program's own input and output a fault of the link is one of the output
abbrev pub judged : Invocation → Served → EndReport
judged ask served = judged_by failure.Output ask served.outcome served.end

-- ---- what it does

-- the session of this key over the program was served so
pub record IsServed (served : Served) (key : List ℕ) (ask : Invocation)
    (old new : Seen) : Type 0 where
  pub program : Bundle
  pub made : NamesMake old.shelf.files ask.names (Ok program)
  pub serves : Serves served program ask.bound key
      (changed old.input new.input) (changed old.out new.out) (changed old.err new.err)

-- it went well, with this status; the program's own output goes to `err`
pub record Talks (status : ℕ) (key : List ℕ) (ask : Invocation) (old new : Seen) : Type 0 where
  pub served : Served
  pub is : IsServed served key ask old new
  pub reported : judged ask served ≡ Ok status

-- nothing was read or written
pub record IsIdle (input out err : Change) : Type 0 where
  pub input_stays : IsUntouched input
  pub out_stays : IsUntouched out
  pub err_stays : IsUntouched err

abbrev pub AreIdle : Seen → Seen → Type 0
AreIdle old new =
    IsIdle (changed old.input new.input) (changed old.out new.out) (changed old.err new.err)

-- there is no program
pub record IsUnserved (why : Failure) (name : List ℕ) (ask : Invocation)
    (old new : Seen) : Type 0 where
  pub cause : ProgramError
  pub caused : ProgramCaused cause old.shelf.files old.shelf.faults new.shelf.faults ask.names
  pub reported : IsProgramReported why name ask cause
  pub idle : AreIdle old new

-- The session was served, and its end is this failure. What `out` and `err` have taken then is said
-- with each end of serving.
pub record EndsSo (why : Failure) (name key : List ℕ) (ask : Invocation)
    (old new : Seen) : Type 0 where
  pub served : Served
  pub is : IsServed served key ask old new
  pub reported : judged ask served ≡ Err (why, name)

-- memory ran out before the session began, or once it was served, to whatever end
abbrev pub IsStarved : List ℕ → Invocation → Seen → Seen → Type 0
IsStarved key ask old new =
    AreIdle old new ⊎ ((served : Served) × IsServed served key ask old new)

-- why it failed
abbrev pub TalkFails : Failure → List ℕ → List ℕ → Invocation → Seen → Seen → Type 0
TalkFails why name key ask old new =
    ((why ≡ failure.Memory) × IsStarved key ask old new)
    ⊎ IsUnserved why name ask old new ⊎ EndsSo why name key ask old new
