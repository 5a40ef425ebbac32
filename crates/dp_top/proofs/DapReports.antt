-- What is reported of `dap`: where no count rose, each answer comes exactly where its cause holds.
use Rattle.std.proofs.Common.{◌≡◌, ◌⊎◌, ℕ, ◌≤◌, List, [], ◌++◌, Option, Ok, Err, refl, sym, ap, ◌∙◌, subst, inl, inr}
use Rattle.dp_dap.specs.Service.{CutBy, EndsBy, IsCut, ServesTo}
use Rattle.dp_engine.specs.declared.service.ServeEnd.{ServeEnd}
use Rattle.dp_engine.specs.declared.service.ServeEnd.TheVariants as serve
use Rattle.dp_engine.specs.declared.session.SessionEnd.{SessionEnd}
use Rattle.dp_outside.specs.Causes.{Rose}
use Rattle.dp_program.specs.Programs.{FilesMake}
use Rattle.dp_top.specs.declared.failures.Failure.{Failure}
use Rattle.dp_top.specs.declared.failures.Failure.TheVariants as failure
use Rattle.dp_top.specs.declared.failures.Refused.{Refused}
use Rattle.dp_top.specs.Dap.{DapFails, EndsSo}
use Rattle.dp_top.specs.Failures.{status_of}
use Rattle.dp_top.specs.Seen.{NoneRose, Seen, changed}
use Rattle.dp_top.specs.Talk.{judged_by}
use Rattle.dp_top.specs.Tasks.{Caused}
use Rattle.dp_top.specs.inner.Completeness.{IsGood}
use Rattle.dp_top.proofs.TaskLaws.{IsNoBadTask, IsTalkEnd, by_outcome, failure_in, one_task, unserved}
use Rattle.dp_tree.specs.declared.bundle.Bundle.{Bundle}
use Rattle.dp_words.specs.Words.{Invocation, IsDap, IsInvocation, Task, dap, invocation_in}

-- where no count rose and the files are not told as bad, what fails is a body, the program's end, a stop or memory
module _ (failed : Failure) (name : List ℕ) (ask : Invocation) (old new : Seen) (good : IsGood failed)
    (none : NoneRose old new) where
  abbrev IsEnd : Type 0
  IsEnd = IsTalkEnd failed name [] ask old new good none failed

  module _ (h : EndsSo failed name ask old new) where
    read_fault : (ended_by : Option SessionEnd) (texts : List (List ℕ)) (left read : List ℕ)
        → h.served.end ≡ serve.ReadFault
        → EndsBy h.served.end ended_by texts left read (changed old.input new.input)
        → Rose old.input.faults new.input.faults
    read_fault ended_by texts left read is ends =
        (subst (λ (e : ServeEnd). EndsBy e ended_by texts left read (changed old.input new.input)) is ends).2

    abbrev IsCutShort : Type 0
    IsCutShort =
        IsCut h.served h.is.program ask.bound (changed old.input new.input) (changed old.out new.out)
        (changed old.err new.err)

    cut_by : (e : ServeEnd) → h.served.end ≡ e → (cut : IsCutShort)
        → CutBy e h.served.outcome h.is.program ask.bound (cut.done ++ cut.last) (changed old.out new.out)
        (changed old.err new.err)
    cut_by e is cut =
        subst (λ (e : ServeEnd). CutBy e h.served.outcome h.is.program ask.bound (cut.done ++ cut.last)
        (changed old.out new.out) (changed old.err new.err)) is cut.by

    write_fault : h.served.end ≡ serve.WriteFault → IsCutShort → Rose old.out.faults new.out.faults
    write_fault is cut = (cut_by serve.WriteFault is cut).0

    out_fault : h.served.end ≡ serve.OutFault → IsCutShort → Rose old.err.faults new.err.faults
    out_fault is cut = (cut_by serve.OutFault is cut).0

    by_end : (e : ServeEnd) → h.served.end ≡ e
        → ServesTo e h.served h.is.program ask.bound (changed old.input new.input) (changed old.out new.out)
        (changed old.err new.err) → judged_by failure.Output ask h.served.outcome e ≡ Err (failed, name) → IsEnd
    by_end serve.Stopped is s e = by_outcome failed name [] ask old new good none h.served.outcome e
    by_end serve.Detached is s e = by_outcome failed name [] ask old new good none h.served.outcome e
    by_end serve.LinkEnd is s e = by_outcome failed name [] ask old new good none h.served.outcome e
    by_end serve.ReadFault is s e = absurd (none.input_not (read_fault _ _ _ _ is s.ends))
    by_end serve.WriteFault is s e = absurd (none.out_not (write_fault is s))
    by_end serve.OutFault is s e = absurd (none.err_not (out_fault is s))
    by_end (serve.BadCommandFrame offset) is s e =
        let same : failure.Packet offset ≡ failed = ap (failure_in failed name [] ask old new good none) e in
        inl (sym (ap status_of same))
    by_end serve.ByteLimit is s e =
        let same : failure.Packet 4294967295 ≡ failed = ap (failure_in failed name [] ask old new good none) e in
        inl (sym (ap status_of same))
    by_end serve.Memory is s e =
        let same : failure.Memory ≡ failed = ap (failure_in failed name [] ask old new good none) e in
        inr (inr (inr (sym (ap status_of same))))

  dap_end : DapFails failed name ask old new → IsEnd
  dap_end (inl memory) = inr (inr (inr (ap status_of memory.0)))
  dap_end (inr (inl u)) = unserved failed name [] ask old new good none u.cause u.caused u.reported.0
  dap_end (inr (inr h)) = by_end h h.served.end refl h.is.serves h.reported

-- the same of the call's answer
pub complete_dap_told : (status : ℕ) (words : List (List ℕ)) (task : Task) (old new : Seen) (refused : Refused)
    (A B : Type 0) → IsInvocation words task
    → Caused refused.failure refused.name.now task old new → IsNoBadTask task refused old new
    → ((status ≡ status_of refused.failure) × A) ⊎ ((status ≡ 209) × B)
    → (ask : Invocation) (program : Bundle) → IsDap words ask
    → FilesMake old.shelf.files ask.names (Ok program) → NoneRose old new
    → (status ≤ 199) ⊎ (status ≡ 207) ⊎ (status ≡ 210) ⊎ (status ≡ 255) ⊎ (status ≡ 209)
complete_dap_told status words task old new refused A B asks caused held told ask program is holds none =
    let same = one_task words task (dap ask) asks is in
    let fails = subst (λ (t : Task). Caused refused.failure refused.name.now t old new) same caused in
    by told (dap_end refused.failure refused.name.now ask old new
    ((held ask (ap invocation_in same)).by_files (Ok program) holds) none fails.0) where
      by : ((status ≡ status_of refused.failure) × A) ⊎ ((status ≡ 209) × B)
          → (status_of refused.failure ≡ 207) ⊎ (status_of refused.failure ≡ 210) ⊎ (status_of refused.failure ≡ 255)
          ⊎ (status_of refused.failure ≡ 209)
          → (status ≤ 199) ⊎ (status ≡ 207) ⊎ (status ≡ 210) ⊎ (status ≡ 255) ⊎ (status ≡ 209)
      by (inr t) e = inr (inr (inr (inr t.0)))
      by (inl t) (inl e) = inr (inl (t.0 ∙ e))
      by (inl t) (inr (inl e)) = inr (inr (inl (t.0 ∙ e)))
      by (inl t) (inr (inr (inl e))) = inr (inr (inr (inl (t.0 ∙ e))))
      by (inl t) (inr (inr (inr e))) = inr (inr (inr (inr (t.0 ∙ e))))
