-- What is reported of `tape` and `audit`: where no count rose, each answer comes exactly where its cause holds.
use Rattle.std.proofs.Common.{◌≡◌, ◌⊎◌, ℕ, ◌≤◌, List, [], Option, None, Some, Result, Ok, Err, MatchResult, refl, sym, ap, ◌∙◌, subst, inl, inr}
use Rattle.dp_outside.specs.Changes.{IsUntouched}
use Rattle.dp_engine.specs.Answers.{answer}
use Rattle.dp_engine.specs.Session.{opening}
use Rattle.dp_conversation.specs.Growth.{served}
use Rattle.dp_audit.specs.Sessions.{session}
use Rattle.dp_program.specs.declared.errors.ProgramError.{ProgramError}
use Rattle.dp_program.specs.Programs.{FilesMake, NamesMake, ProgramCaused}
use Rattle.dp_records.specs.declared.tape_end.TapeEnd.{TapeEnd}
use Rattle.dp_records.specs.declared.tape_end.TapeEnd.TheVariants as tapes
use Rattle.dp_records.specs.declared.verdict.AuditError.{AuditError}
use Rattle.dp_records.specs.declared.verdict.AuditError.TheVariants as none
use Rattle.dp_records.specs.declared.verdict.Verdict.{Verdict}
use Rattle.dp_records.specs.declared.verdict.Verdict.TheVariants.{Honest}
use Rattle.dp_records.specs.Tapes.{EndsTape}
use Rattle.dp_state.specs.declared.moments.Outcome.{Outcome}
use Rattle.dp_top.specs.declared.failures.Failure.{Failure}
use Rattle.dp_top.specs.declared.failures.Failure.TheVariants as failure
use Rattle.dp_top.specs.declared.failures.Refused.{Refused}
use Rattle.dp_top.specs.Failures.{status_of}
use Rattle.dp_top.specs.Records.{AuditEnds, AuditFails, Audits, EndsPrinted, IsJudged, JudgesProgram, TapeEnds, TapeFails, Tapes, ended_report, tape_report, verdict_text}
use Rattle.dp_top.specs.Runs.{IsProgramReported}
use Rattle.dp_top.specs.Seen.{NoneRose, Seen, changed}
use Rattle.dp_top.specs.Talk.{AreIdle, ended}
use Rattle.dp_top.specs.Tasks.{Caused, Does}
use Rattle.dp_top.specs.inner.Completeness.{IsGood}
use Rattle.dp_top.specs.inner.Recorded.{AuditedSo, EndedSo, TapedSo, PrintedSo, UnauditedSo, UntapedSo}
use Rattle.dp_top.proofs.RecordLaws.{none_front}
use Rattle.dp_top.proofs.TaskLaws.{IsNoBadTask, IsTalkEnd, by_outcome, failure_in, no_program, one_task, unserved}
use Rattle.dp_tree.specs.declared.bundle.Bundle.{Bundle}
use Rattle.dp_words.specs.Words.{Invocation, IsAudit, IsInvocation, IsTape, Task, audit, tape, invocation_in}

-- ---- `tape`

module _ (failed : Failure) (name key : List ℕ) (ask : Invocation) (old new : Seen) (good : IsGood failed)
    (none_rose : NoneRose old new) where
  abbrev IsEnd : Type 0
  IsEnd = IsTalkEnd failed name key ask old new good none_rose failed

  by_bad : (bad : Option ℕ) (outcome : Option Outcome) → ended_report ask bad (ended ask outcome) ≡ Err (failed, name)
      → IsEnd
  by_bad (Some offset) outcome e =
      let same : failure.Packet offset ≡ failed = ap (failure_in failed name key ask old new good none_rose) e in
      inl (sym (ap status_of same))
  by_bad None outcome e = by_outcome failed name key ask old new good none_rose outcome e

  module _ (h : TapeEnds failed name key ask old new) where
    by_end : (end : TapeEnd)
        → EndsTape end (session h.is.program ask.bound key)
        (served answer (opening h.is.program ask.bound) h.is.tapes.read) h.is.tapes.read
        (changed old.input new.input) (changed old.out new.out)
        → tape_report ask end ≡ Err (failed, name) → IsEnd
    by_end (tapes.Ended end) ends e = by_bad end.bad end.outcome e
    by_end tapes.ReadFault ends e = absurd (none_rose.input_not ends.1)
    by_end tapes.WriteFault ends e = absurd (none_rose.out_not ends.1)
    by_end tapes.ByteLimit ends e =
        let same : failure.Packet 4294967295 ≡ failed = ap (failure_in failed name key ask old new good none_rose) e in
        inl (sym (ap status_of same))
    by_end tapes.Memory ends e =
        let same : failure.Memory ≡ failed = ap (failure_in failed name key ask old new good none_rose) e in
        inr (inr (inr (sym (ap status_of same))))

  tape_end : TapeFails failed name key ask old new → IsEnd
  tape_end (inl memory) = inr (inr (inr (ap status_of memory.0)))
  tape_end (inr (inl u)) = unserved failed name key ask old new good none_rose u.cause u.caused u.reported.0
  tape_end (inr (inr h)) = by_end h h.end h.is.tapes.ends h.reported

pub complete_tape_told : (status : ℕ) (words : List (List ℕ)) (task : Task) (old new : Seen) (refused : Refused)
    (A B : Type 0) → IsInvocation words task
    → Caused refused.failure refused.name.now task old new → IsNoBadTask task refused old new
    → ((status ≡ status_of refused.failure) × A) ⊎ ((status ≡ 209) × B)
    → (key : List ℕ) (ask : Invocation) (program : Bundle) → IsTape words key ask
    → FilesMake old.shelf.files ask.names (Ok program) → NoneRose old new
    → (status ≤ 199) ⊎ (status ≡ 207) ⊎ (status ≡ 210) ⊎ (status ≡ 255) ⊎ (status ≡ 209)
complete_tape_told status words task old new refused A B asks caused held told key ask program is holds none_rose =
    let same = one_task words task (tape key ask) asks is in
    let fails = subst (λ (t : Task). Caused refused.failure refused.name.now t old new) same caused in
    by told (tape_end refused.failure refused.name.now key ask old new
    ((held ask (ap invocation_in same)).by_files (Ok program) holds) none_rose fails.0) where
      by : ((status ≡ status_of refused.failure) × A) ⊎ ((status ≡ 209) × B)
          → (status_of refused.failure ≡ 207) ⊎ (status_of refused.failure ≡ 210) ⊎ (status_of refused.failure ≡ 255)
          ⊎ (status_of refused.failure ≡ 209)
          → (status ≤ 199) ⊎ (status ≡ 207) ⊎ (status ≡ 210) ⊎ (status ≡ 255) ⊎ (status ≡ 209)
      by (inr t) e = inr (inr (inr (inr t.0)))
      by (inl t) (inl e) = inr (inl (t.0 ∙ e))
      by (inl t) (inr (inl e)) = inr (inr (inl (t.0 ∙ e)))
      by (inl t) (inr (inr (inl e))) = inr (inr (inr (inl (t.0 ∙ e))))
      by (inl t) (inr (inr (inr e))) = inr (inr (inr (inr (t.0 ∙ e))))

-- ---- `audit`

abbrev IsAuditEnd : ℕ → Type 0
IsAuditEnd status = (status ≡ 211) ⊎ (status ≡ 204) ⊎ (status ≡ 209)

module _ (failed : Failure) (key : List ℕ) (ask : Invocation) (old new : Seen) (none_rose : NoneRose old new) where
  by_result : (result : Result Verdict AuditError) → AuditEnds failed key ask result old new
      → IsAuditEnd (status_of failed)
  by_result (Ok verdict) h = by h.1 where
    by : EndsPrinted failed verdict old new → IsAuditEnd (status_of failed)
    by (inl lies) = inl (ap status_of lies.2)
    by (inr output) = absurd (none_rose.out_not output.1)
  by_result (Err (none.BadRecord line)) h = inr (inl (ap status_of h.1))
  by_result (Err none.ReadFault) h = absurd (none_rose.input_not (h.0.judges.fault refl))
  by_result (Err none.Memory) h = inr (inr (ap status_of h.1))

audit_end : (failed : Failure) (name key : List ℕ) (ask : Invocation) (old new : Seen) → IsGood failed
    → NoneRose old new
    → AuditFails failed name key ask old new → IsAuditEnd (status_of failed)
audit_end failed name key ask old new good none_rose (inl memory) = inr (inr (ap status_of memory.0))
audit_end failed name key ask old new good none_rose (inr (inl u)) =
    inr (inr (no_program failed _ _ _ ask.names good none_rose.shelf u.cause u.caused u.reported.0))
audit_end failed name key ask old new good none_rose (inr (inr h)) =
    by_result failed key ask old new none_rose h.1.0 h.1.1

pub complete_audit_told : (status : ℕ) (words : List (List ℕ)) (task : Task) (old new : Seen) (refused : Refused)
    (A B : Type 0) → IsInvocation words task
    → Caused refused.failure refused.name.now task old new → IsNoBadTask task refused old new
    → ((status ≡ status_of refused.failure) × A) ⊎ ((status ≡ 209) × B)
    → (key : List ℕ) (ask : Invocation) (program : Bundle) → IsAudit words key ask
    → FilesMake old.shelf.files ask.names (Ok program) → NoneRose old new
    → (status ≡ 0) ⊎ (status ≡ 211) ⊎ (status ≡ 204) ⊎ (status ≡ 209)
complete_audit_told status words task old new refused A B asks caused held told key ask program is holds none_rose =
    let same = one_task words task (audit key ask) asks is in
    let fails = subst (λ (t : Task). Caused refused.failure refused.name.now t old new) same caused in
    by told (audit_end refused.failure refused.name.now key ask old new
    ((held ask (ap invocation_in same)).by_files (Ok program) holds) none_rose fails.0) where
      by : ((status ≡ status_of refused.failure) × A) ⊎ ((status ≡ 209) × B)
          → IsAuditEnd (status_of refused.failure) → (status ≡ 0) ⊎ (status ≡ 211) ⊎ (status ≡ 204) ⊎ (status ≡ 209)
      by (inr t) e = inr (inr (inr t.0))
      by (inl t) (inl e) = inr (inl (t.0 ∙ e))
      by (inl t) (inr (inl e)) = inr (inr (inl (t.0 ∙ e)))
      by (inl t) (inr (inr e)) = inr (inr (inr (t.0 ∙ e)))

-- what is honest has the status 0
pub audits_well : (status : ℕ) (words : List (List ℕ)) (task : Task) (old new : Seen) → IsInvocation words task
    → Does status task old new → (key : List ℕ) (ask : Invocation) → IsAudit words key ask → status ≡ 0
audits_well status words task old new asks does key ask is =
    (subst (λ (t : Task). Does status t old new) (one_task words task (audit key ask) asks is) does).0.well

-- ---- over the program of the files

module _ (key : List ℕ) (ask : Invocation) (old new : Seen) (program : Bundle)
    (made : NamesMake old.shelf.files ask.names (Ok program)) where
  pub program_taped : IsUntouched (changed old.err new.err) → (result : Result ℕ Refused)
      → MatchResult result (λ status. TapedSo status program key ask (changed old.input new.input)
      (changed old.out new.out))
      (λ why. UntapedSo why.failure why.name.now program key ask (changed old.input new.input)
      (changed old.out new.out))
      → MatchResult result (λ status. Tapes status key ask old new)
      (λ why. TapeFails why.failure why.name.now key ask old new)
  program_taped stays (Ok status) h = record {
    end = h.end;
    is = record { program = program; made = made; tapes = h.tapes; err_stays = stays };
    reported = h.reported;
  }
  program_taped stays (Err why) h = inr (inr (record {
    end = h.end;
    is = record { program = program; made = made; tapes = h.tapes; err_stays = stays };
    reported = h.reported;
  }))

  judged : IsUntouched (changed old.err new.err) → (result : Result Verdict AuditError)
      → JudgesProgram result program key ask (changed old.input new.input) → IsJudged result key ask old new
  judged stays result judges = record { program = program; made = made; judges = judges; err_stays = stays }

  audit_ended : (stays : IsUntouched (changed old.err new.err)) (why : Failure) (name : List ℕ)
      (result : Result Verdict AuditError) → name ≡ []
      → JudgesProgram result program key ask (changed old.input new.input)
      → EndedSo why result (changed old.out new.out) → AuditFails why name key ask old new
  audit_ended stays why name (Ok verdict) unnamed judges ends = by ends where
    by : PrintedSo why verdict (changed old.out new.out) → AuditFails why name key ask old new
    by (inl lies) = inr (inr (unnamed, (Ok verdict, (judged stays (Ok verdict) judges, inl lies))))
    by (inr (inl output)) = inr (inr (unnamed, (Ok verdict, (judged stays (Ok verdict) judges, inr output))))
    by (inr (inr memory)) = inl (
      memory.0,
      inr (record {
        result = Ok verdict;
        is = judged stays (Ok verdict) judges;
        printed = none_front old.out.told new.out.told (verdict_text verdict) memory.1.0;
      }),
    )
  audit_ended stays why name (Err cause) unnamed judges ends =
      inr (inr (unnamed, (Err cause, (judged stays (Err cause) judges, ends.0, ends.1))))

  pub program_audited : IsUntouched (changed old.err new.err) → (result : Result ℕ Refused)
      → MatchResult result (λ status. AuditedSo status program key ask (changed old.input new.input)
      (changed old.out new.out))
      (λ why. UnauditedSo why.failure why.name.now program key ask (changed old.input new.input)
      (changed old.out new.out))
      → MatchResult result (λ status. Audits status key ask old new)
      (λ why. AuditFails why.failure why.name.now key ask old new)
  program_audited stays (Ok status) h =
      record { well = h.well; is = judged stays (Ok Honest) h.judges; printed = h.printed }
  program_audited stays (Err why) h =
      audit_ended stays why.failure why.name.now h.result h.unnamed h.judges h.ends

-- ---- there is no program

module _ (key : List ℕ) (ask : Invocation) (old new : Seen) (refused : Refused) (why : ProgramError)
    (caused : ProgramCaused why old.shelf.files old.shelf.faults new.shelf.faults ask.names)
    (told : IsProgramReported refused.failure refused.name.now ask why) (idle : AreIdle old new) where
  pub none_taped : TapeFails refused.failure refused.name.now key ask old new
  none_taped = inr (inl (record { cause = why; caused = caused; reported = told; idle = idle }))

  pub none_audited : AuditFails refused.failure refused.name.now key ask old new
  none_audited = inr (inl (record { cause = why; caused = caused; reported = told; idle = idle }))
