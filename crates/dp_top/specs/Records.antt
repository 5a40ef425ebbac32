-- The commands `tape` and `audit`: what they do, and why they fail.
use Rattle.std.specs.Prelude.{◌≡◌, ◌⊎◌, ℕ, List, [], ◌++◌, codes, Option, None, Some, Result, Ok, Err, MatchResult}
use Rattle.std.specs.Fmt.{decimal}
use Rattle.std.specs.Io.KnownBytes.{Appends, IsAtEnd}
use Rattle.dp_outside.specs.Causes.{Rose}
use Rattle.dp_outside.specs.Changes.{Change, IsUntouched}
use Rattle.dp_outside.specs.Streams.{AppendsFront}
use Rattle.dp_tree.specs.declared.bundle.Bundle.{Bundle}
use Rattle.dp_audit.specs.Sessions.{session}
use Rattle.dp_conversation.specs.Service.{byte_limit}
use Rattle.dp_engine.specs.Answers.{answer}
use Rattle.dp_engine.specs.Session.{opening}
use Rattle.dp_program.specs.Programs.{NamesMake}
use Rattle.dp_records.specs.declared.tape_end.TapeEnd.{TapeEnd}
use Rattle.dp_records.specs.declared.tape_end.TapeEnd.TheVariants.{Ended, ReadFault, WriteFault, ByteLimit, Memory}
use Rattle.dp_records.specs.declared.verdict.AuditError.{AuditError}
use Rattle.dp_records.specs.declared.verdict.AuditError.TheVariants as none
use Rattle.dp_records.specs.declared.verdict.Verdict.{Verdict}
use Rattle.dp_records.specs.declared.verdict.Verdict.TheVariants.{Honest, Differs}
use Rattle.dp_records.specs.Tapes as tapes
use Rattle.dp_records.specs.Verdicts.{Judges}
use Rattle.dp_top.specs.declared.failures.Failure.{Failure}
use Rattle.dp_top.specs.declared.failures.Failure.TheVariants as failure
use Rattle.dp_words.specs.Words.{Invocation}
use Rattle.dp_top.specs.Seen.{Seen, changed}
use Rattle.dp_top.specs.Talk.{AreIdle, EndReport, IsUnserved, ended, unnamed}

-- ---- `tape`

-- the program's end as it was served; the offset of what is no command, where there is one
abbrev pub ended_report : Invocation → Option ℕ → EndReport → EndReport
ended_report ask (Some offset) end = unnamed (failure.Packet offset)
ended_report ask None end = end

abbrev pub tape_report : Invocation → TapeEnd → EndReport
tape_report ask (Ended end) = ended_report ask end.bad (ended ask end.outcome)
tape_report ask ReadFault = unnamed failure.Network
tape_report ask WriteFault = unnamed failure.Output
tape_report ask ByteLimit = unnamed (failure.Packet byte_limit)
tape_report ask Memory = unnamed failure.Memory

-- the session of this key over the program was taped so
abbrev pub TapesProgram : TapeEnd → Bundle → List ℕ → Invocation → Change → Change → Type 0
TapesProgram end program key ask input out =
    tapes.Tapes answer (opening program ask.bound) (session program ask.bound key) end input out

pub record IsTaped (end : TapeEnd) (key : List ℕ) (ask : Invocation) (old new : Seen)
    : Type 0 where
  pub program : Bundle
  pub made : NamesMake old.shelf.files ask.names (Ok program)
  pub tapes : TapesProgram end program key ask (changed old.input new.input)
      (changed old.out new.out)
  pub err_stays : IsUntouched (changed old.err new.err)

-- it went well, with this status
pub record Tapes (status : ℕ) (key : List ℕ) (ask : Invocation) (old new : Seen) : Type 0 where
  pub end : TapeEnd
  pub is : IsTaped end key ask old new
  pub reported : tape_report ask end ≡ Ok status

-- the session was taped, and its end is this failure
pub record TapeEnds (why : Failure) (name key : List ℕ) (ask : Invocation) (old new : Seen)
    : Type 0 where
  pub end : TapeEnd
  pub is : IsTaped end key ask old new
  pub reported : tape_report ask end ≡ Err (why, name)

-- why it failed: memory ran out before a session began or once it was taped, there is no program,
-- or so the session ended
abbrev pub TapeFails : Failure → List ℕ → List ℕ → Invocation → Seen → Seen → Type 0
TapeFails why name key ask old new =
    ((why ≡ failure.Memory)
    × (AreIdle old new ⊎ ((end : TapeEnd) × IsTaped end key ask old new)))
    ⊎ IsUnserved why name ask old new ⊎ TapeEnds why name key ask old new

-- ---- `audit`

-- what is printed
abbrev pub verdict_text : Verdict → List ℕ
verdict_text Honest = codes "honest\n"
verdict_text (Differs line) = codes "differs at line " ++ decimal line ++ codes "\n"

-- this was said of what the input gave, as a record of a session of this key over the program
pub record JudgesProgram (result : Result Verdict AuditError) (program : Bundle) (key : List ℕ)
    (ask : Invocation) (input : Change) : Type 0 where
  pub judged : (bytes : List ℕ) → input.told_before ≡ Some bytes
      → Judges (session program ask.bound key) bytes result
  pub whole : result ≡ Ok Honest → IsAtEnd input.told
  pub fault : result ≡ Err none.ReadFault → Rose input.faults_before input.faults

pub record IsJudged (result : Result Verdict AuditError) (key : List ℕ) (ask : Invocation)
    (old new : Seen) : Type 0 where
  pub program : Bundle
  pub made : NamesMake old.shelf.files ask.names (Ok program)
  pub judges : JudgesProgram result program key ask (changed old.input new.input)
  pub err_stays : IsUntouched (changed old.err new.err)

-- it is honest, and that is printed
pub record Audits (status : ℕ) (key : List ℕ) (ask : Invocation) (old new : Seen) : Type 0 where
  pub well : status ≡ 0
  pub is : IsJudged (Ok Honest) key ask old new
  pub printed : Appends old.out.told new.out.told (verdict_text Honest)

-- why there is no verdict
abbrev pub failure_of : AuditError → Failure
failure_of (none.BadRecord line) = failure.Script line
failure_of none.ReadFault = failure.Network
failure_of none.Memory = failure.Memory

-- a difference is printed; or the output failed, and a front of the line stands there
abbrev pub EndsPrinted : Failure → Verdict → Seen → Seen → Type 0
EndsPrinted why verdict old new =
    ((line : ℕ) × (verdict ≡ Differs line) × (why ≡ failure.Lies line)
    × Appends old.out.told new.out.told (verdict_text verdict))
    ⊎ ((why ≡ failure.Output) × Rose old.out.faults new.out.faults
    × AppendsFront old.out.told new.out.told (verdict_text verdict))

-- what was said, and what is printed of it
abbrev pub AuditEnds : Failure → List ℕ → Invocation → Result Verdict AuditError → Seen → Seen
    → Type 0
AuditEnds why key ask (Ok verdict) old new =
    IsJudged (Ok verdict) key ask old new × EndsPrinted why verdict old new
AuditEnds why key ask (Err cause) old new =
    IsJudged (Err cause) key ask old new × (why ≡ failure_of cause)
    × IsUntouched (changed old.out new.out)

-- memory ran out before the record was judged, or for a line; what was printed is a front of what
-- was said
pub record IsUntold (key : List ℕ) (ask : Invocation) (old new : Seen) : Type 0 where
  pub result : Result Verdict AuditError
  pub is : IsJudged result key ask old new
  pub printed : MatchResult result
      (λ verdict. AppendsFront old.out.told new.out.told (verdict_text verdict))
      (λ cause. IsUntouched (changed old.out new.out))

-- why it failed
abbrev pub AuditFails : Failure → List ℕ → List ℕ → Invocation → Seen → Seen → Type 0
AuditFails why name key ask old new =
    ((why ≡ failure.Memory) × (AreIdle old new ⊎ IsUntold key ask old new))
    ⊎ IsUnserved why name ask old new
    ⊎ ((name ≡ []) × ((result : Result Verdict AuditError) × AuditEnds why key ask result old new))
