-- What is reported of `async`: where no count rose, each answer comes exactly where its cause holds.
use Rattle.std.proofs.Common.{◌≡◌, ◌⊎◌, ℕ, ◌+◌, ◌<◌, ◌≤◌, List, Ok, Err, refl, sym, ap, ◌∙◌, subst, arith, inl, inr}
use Rattle.dp_async.specs.Served.{HeardCutBy, HearsTo, Input, IsHeardCut}
use Rattle.dp_engine.specs.declared.service.ServeEnd.{ServeEnd}
use Rattle.dp_engine.specs.declared.service.ServeEnd.TheVariants as serve
use Rattle.dp_program.specs.Programs.{FilesMake}
use Rattle.dp_top.specs.declared.failures.Failure.{Failure}
use Rattle.dp_top.specs.declared.failures.Failure.TheVariants as failure
use Rattle.dp_top.specs.declared.failures.Refused.{Refused}
use Rattle.dp_top.specs.Async.{AsyncFails, EndsSo, flow_change, judged_end}
use Rattle.dp_top.specs.Failures.{status_of}
use Rattle.dp_top.specs.Seen.{NoneRose, Seen, changed}
use Rattle.dp_top.specs.Talk.{unnamed}
use Rattle.dp_top.specs.Tasks.{Caused}
use Rattle.dp_top.specs.inner.Completeness.{IsGood}
use Rattle.dp_top.proofs.TaskLaws.{IsNoBadTask, IsTalkEnd, by_outcome, failure_in, link_sound, one_task, unserved}
use Rattle.dp_tree.specs.declared.bundle.Bundle.{Bundle}
use Rattle.dp_words.specs.Words.{Address, Invocation, IsAsync, IsInvocation, Task, async, invocation_in}

-- where no count rose and the files are not told as bad, what fails is a packet, the program's end, a stop or memory
module _ (failed : Failure) (name : List ℕ) (address : Address) (key : List ℕ) (ask : Invocation) (old new : Seen)
    (good : IsGood failed) (none : NoneRose old new) where
  abbrev IsEnd : Type 0
  IsEnd = IsTalkEnd failed name key ask old new good none failed

  -- the failure that is reported
  failed_in : (why : Failure) → unnamed why ≡ Err (failed, name) → why ≡ failed
  failed_in why e = ap (failure_in failed name key ask old new good none) e

  module _ (h : EndsSo failed name address key ask old new) (before after : Input) where
    abbrev HearsHere : ServeEnd → Type 0
    HearsHere e = HearsTo e h.served h.is.program ask.bound key before after h.is.sink (changed old.out new.out)

    abbrev IsCutShort : Type 0
    IsCutShort = IsHeardCut h.served h.is.program ask.bound key before after h.is.sink (changed old.out new.out)

    cut_by : (e : ServeEnd) → h.served.served.end ≡ e → (cut : IsCutShort)
        → HeardCutBy e h.served.log before after h.is.sink (changed old.out new.out)
    cut_by e is cut =
        subst (λ (e : ServeEnd). HeardCutBy e h.served.log before after h.is.sink (changed old.out new.out)) is cut.by

    -- neither half of the link has failed
    sound : 0 < h.is.now.faults + h.is.sink.faults → ⊥
    sound some =
        link_sound failed name address key ask old new good none (flow_change h.is.before h.is.now) h.is.sink
        h.is.dialled some

    read_fault : h.served.served.end ≡ serve.ReadFault → ⊥
    read_fault is = let rose = h.is.attends.failed is in sound (omega (arith, rose))

    write_fault : h.served.served.end ≡ serve.WriteFault → IsCutShort → ⊥
    write_fault is cut = let rose = (cut_by serve.WriteFault is cut).0 in sound (omega (arith, rose))

    out_fault : h.served.served.end ≡ serve.OutFault → IsCutShort → ⊥
    out_fault is cut = none.out_not (cut_by serve.OutFault is cut).0

    by_end : (e : ServeEnd) → h.served.served.end ≡ e → HearsHere e
        → judged_end ask h.served.served.outcome e ≡ Err (failed, name) → IsEnd
    by_end serve.Stopped is s e = by_outcome failed name key ask old new good none h.served.served.outcome e
    by_end serve.Detached is s e = by_outcome failed name key ask old new good none h.served.served.outcome e
    by_end serve.LinkEnd is s e = by_outcome failed name key ask old new good none h.served.served.outcome e
    by_end serve.ReadFault is s e = absurd (read_fault is)
    by_end serve.WriteFault is s e = absurd (write_fault is s)
    by_end serve.OutFault is s e = absurd (out_fault is s)
    by_end (serve.BadCommandFrame offset) is s e = inl (sym (ap status_of (failed_in (failure.Packet offset) e)))
    by_end serve.ByteLimit is s e = inl (sym (ap status_of (failed_in (failure.Packet 16777216) e)))
    by_end serve.Memory is s e = inr (inr (inr (sym (ap status_of (failed_in failure.Memory e)))))

  async_end : AsyncFails failed name address key ask old new → IsEnd
  async_end (inl memory) = inr (inr (inr (ap status_of memory.0)))
  async_end (inr (inl u)) = unserved failed name key ask old new good none u.cause u.caused u.reported.0
  async_end (inr (inr (inl alone))) = absurd (none.net_not alone.2.undialled.faults)
  async_end (inr (inr (inr (inl unread)))) = absurd (none.spawner_not unread.rose)
  async_end (inr (inr (inr (inr h)))) =
      by_end h _ h.is.attends.input h.served.served.end refl h.is.attends.hears h.reported

-- the same of the call's answer
pub complete_async_told : (status : ℕ) (words : List (List ℕ)) (task : Task) (old new : Seen) (refused : Refused)
    (A B : Type 0) → IsInvocation words task
    → Caused refused.failure refused.name.now task old new → IsNoBadTask task refused old new
    → ((status ≡ status_of refused.failure) × A) ⊎ ((status ≡ 209) × B)
    → (address : Address) (key : List ℕ) (ask : Invocation) (program : Bundle) → IsAsync words address key ask
    → FilesMake old.shelf.files ask.names (Ok program) → NoneRose old new
    → (status ≤ 199) ⊎ (status ≡ 207) ⊎ (status ≡ 210) ⊎ (status ≡ 255) ⊎ (status ≡ 209)
complete_async_told status words task old new refused A B asks caused held told address key ask program is holds none =
    let same = one_task words task (async address key ask) asks is in
    let fails = subst (λ (t : Task). Caused refused.failure refused.name.now t old new) same caused in
    by told (async_end refused.failure refused.name.now address key ask old new
    ((held ask (ap invocation_in same)).by_files (Ok program) holds) none fails) where
      by : ((status ≡ status_of refused.failure) × A) ⊎ ((status ≡ 209) × B)
          → (status_of refused.failure ≡ 207) ⊎ (status_of refused.failure ≡ 210) ⊎ (status_of refused.failure ≡ 255)
          ⊎ (status_of refused.failure ≡ 209)
          → (status ≤ 199) ⊎ (status ≡ 207) ⊎ (status ≡ 210) ⊎ (status ≡ 255) ⊎ (status ≡ 209)
      by (inr t) e = inr (inr (inr (inr t.0)))
      by (inl t) (inl e) = inr (inl (t.0 ∙ e))
      by (inl t) (inr (inl e)) = inr (inr (inl (t.0 ∙ e)))
      by (inl t) (inr (inr (inl e))) = inr (inr (inr (inl (t.0 ∙ e))))
      by (inl t) (inr (inr (inr e))) = inr (inr (inr (inr (t.0 ∙ e))))
