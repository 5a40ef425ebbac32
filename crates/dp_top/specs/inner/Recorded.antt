-- What the code tells of a record over a program.
use Rattle.std.specs.Prelude.{◌≡◌, ◌⊎◌, ℕ, List, [], Result, Ok, Err}
use Rattle.std.specs.Io.KnownBytes.{Appends}
use Rattle.dp_outside.specs.Causes.{Rose}
use Rattle.dp_outside.specs.Changes.{Change, IsUntouched}
use Rattle.dp_outside.specs.Streams.{AppendsFront}
use Rattle.dp_tree.specs.declared.bundle.Bundle.{Bundle}
use Rattle.dp_records.specs.declared.tape_end.TapeEnd.{TapeEnd}
use Rattle.dp_records.specs.declared.verdict.AuditError.{AuditError}
use Rattle.dp_records.specs.declared.verdict.Verdict.{Verdict}
use Rattle.dp_records.specs.declared.verdict.Verdict.TheVariants.{Honest, Differs}
use Rattle.dp_top.specs.declared.failures.Failure.{Failure}
use Rattle.dp_top.specs.declared.failures.Failure.TheVariants as failure
use Rattle.dp_words.specs.Words.{Invocation}
use Rattle.dp_top.specs.Records.{JudgesProgram, TapesProgram, failure_of, tape_report, verdict_text}

pub record TapedSo (status : ℕ) (program : Bundle) (key : List ℕ) (ask : Invocation)
    (input out : Change) : Type 0 where
  pub end : TapeEnd
  pub tapes : TapesProgram end program key ask input out
  pub reported : tape_report ask end ≡ Ok status

pub record UntapedSo (why : Failure) (name : List ℕ) (program : Bundle) (key : List ℕ)
    (ask : Invocation) (input out : Change) : Type 0 where
  pub end : TapeEnd
  pub tapes : TapesProgram end program key ask input out
  pub reported : tape_report ask end ≡ Err (why, name)

pub record AuditedSo (status : ℕ) (program : Bundle) (key : List ℕ) (ask : Invocation)
    (input out : Change) : Type 0 where
  pub well : status ≡ 0
  pub judges : JudgesProgram (Ok Honest) program key ask input
  pub printed : Appends out.told_before out.told (verdict_text Honest)

-- how telling a verdict failed
abbrev pub PrintedSo : Failure → Verdict → Change → Type 0
PrintedSo why verdict out =
    ((line : ℕ) × (verdict ≡ Differs line) × (why ≡ failure.Lies line)
    × Appends out.told_before out.told (verdict_text verdict))
    ⊎ ((why ≡ failure.Output) × Rose out.faults_before out.faults
    × AppendsFront out.told_before out.told (verdict_text verdict))
    ⊎ ((why ≡ failure.Memory) × IsUntouched out)

abbrev pub EndedSo : Failure → Result Verdict AuditError → Change → Type 0
EndedSo why (Ok verdict) out = PrintedSo why verdict out
EndedSo why (Err cause) out = (why ≡ failure_of cause) × IsUntouched out

pub record UnauditedSo (why : Failure) (name : List ℕ) (program : Bundle) (key : List ℕ)
    (ask : Invocation) (input out : Change) : Type 0 where
  pub unnamed : name ≡ []
  pub result : Result Verdict AuditError
  pub judges : JudgesProgram result program key ask input
  pub ends : EndedSo why result out
