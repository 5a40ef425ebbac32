-- What is told of a replay decides the answer of the top call.
use Rattle.std.proofs.Common.{◌≡◌, ◌⊎◌, inl, inr, ⊎_elim, ℕ, List, IsSome, Result, Ok, Err, refl, sym, ap, ◌∙◌, subst, arith}
use Rattle.dp_outside.specs.Causes.{Rose}
use Rattle.dp_outside.specs.Changes.{Change}
use Rattle.dp_bundle.specs.declared.errors.BundleError.{BundleError}
use Rattle.dp_bundle.specs.declared.errors.BundleError.TheVariants as unmade
use Rattle.dp_tree.specs.declared.bundle.Bundle.{Bundle}
use Rattle.dp_events.specs.declared.event.Event.{Event}
use Rattle.dp_events.specs.Lists.{IsFirstBad}
use Rattle.dp_program.specs.declared.errors.ProgramError.{ProgramError}
use Rattle.dp_program.specs.declared.errors.ProgramError.TheVariants as none
use Rattle.dp_program.specs.Programs.{Files, FilesMake, IsComplete as IsRunComplete, ProgramCaused}
use Rattle.dp_program.proofs.RunLaws.{complete_unfetched}
use Rattle.dp_top.specs.declared.failures.Failure.{Failure}
use Rattle.dp_top.specs.declared.failures.Failure.TheVariants as failure
use Rattle.dp_top.specs.declared.failures.Refused.{Refused}
use Rattle.dp_top.specs.Failures.{status_of}
use Rattle.dp_top.specs.Replay.{IsListFile, IsNoList, IsReplayed, IsUnreplayed, ReadBefore, ReplayFails}
use Rattle.dp_top.specs.Lines.{Unread}
use Rattle.dp_top.specs.Runs.{program_failure}
use Rattle.dp_top.specs.Seen.{NoneRose, Seen, changed}
use Rattle.dp_top.specs.Tasks.{Caused, Does}
use Rattle.dp_top.specs.inner.Completeness.{AreCompleteWith, IsGood}
use Rattle.dp_top.proofs.LineLaws.{held_or_lacking}
use Rattle.dp_top.proofs.ReplayLaws.{held_or_bad}
use Rattle.dp_top.proofs.RunReports.{bad_source}
use Rattle.dp_top.proofs.TaskLaws.{no_program, one_task}
use Rattle.dp_words.specs.Words.{Invocation, IsInvocation, IsReplay, Task, replay}

-- a failure of these statuses, or the shelf failed
abbrev IsListEnd : Failure → ℕ → ℕ → Type 0
IsListEnd why before after = (status_of why ≡ 204) ⊎ (status_of why ≡ 209) ⊎ Rose before after

never_missing : (made : Result Bundle BundleError) (file before after : ℕ)
    → IsRunComplete {A = Bundle} made (Err (none.Missing file)) before after → Rose before after
never_missing (Ok program) file before after h = absurd cc
never_missing (Err (unmade.Source f why)) file before after (inl same) = absurd cc
never_missing (Err (unmade.TooLong f)) file before after (inl same) = absurd cc
never_missing (Err unmade.Memory) file before after (inl same) = absurd cc
never_missing (Err e) file before after (inr (inl same)) = absurd cc
never_missing (Err e) file before after (inr (inr rose)) = rose

-- ---- a file that is no list

module _ (files : Files) (before after : ℕ) (out : Change) (events : List ℕ) (ask : Invocation) (line : ℕ)
    (made : Result Bundle BundleError) (bad : IsNoList files events line)
    (holds : FilesMake files ask.names made) where
  never_held : (list : List Event) → IsListFile files events list → ⊥
  never_held list held = held_or_bad files events bad.content list line holds.tells held bad.fetched bad.bad

  unlisted : (why : Failure) (name : List ℕ)
      → Unread IsFirstBad why name events files before after → IsListEnd why before after
  unlisted failure.ShelfFailed name h = inr (inr h.1)
  unlisted failure.NoFile name h = absurd (held_or_lacking files events bad.content holds.tells bad.fetched h.1)
  unlisted (failure.Script n) name h = inl refl
  unlisted failure.Memory name h = absurd h
  unlisted failure.TooLong name h = absurd h
  unlisted (failure.Source reason number) name h = absurd h
  unlisted (failure.Fatal kind n) name h = absurd h
  unlisted (failure.Bound steps) name h = absurd h
  unlisted failure.Output name h = absurd h
  unlisted (failure.Differs n wanted found) name h = absurd h
  unlisted failure.PeerEnd name h = absurd h
  unlisted (failure.Packet offset) name h = absurd h
  unlisted failure.Network name h = absurd h
  unlisted failure.Stopped name h = absurd h
  unlisted (failure.Lies line) name h = absurd h

  no_files : (why : Failure) (name : List ℕ) (u : IsUnreplayed why name events ask files before after)
      → IsListEnd why before after
  no_files why name u = by u.cause u.caused u.read u.reported.0 where
    by : (cause : ProgramError) → ProgramCaused cause files before after ask.names → ReadBefore cause files events
        → why ≡ program_failure cause → IsListEnd why before after
    by (none.Shelf file) caused read told = inr (inr caused.1)
    by (none.Missing file) caused read told =
        inr (inr (never_missing made file before after (complete_unfetched Bundle files ask.names before after made
        (none.Missing file) caused tt holds)))
    by (none.TooLong file) caused read told = absurd (never_held read.0 read.1)
    by (none.Source file cause) caused read told = absurd (never_held read.0 read.1)
    by none.Memory caused read told = inr (inl (ap status_of told))

  list_end : (why : Failure) (name : List ℕ) → ReplayFails why name events ask files before after out
      → IsListEnd why before after
  list_end why name (inl memory) = inr (inl (ap status_of memory.0))
  list_end why name (inr (inl u)) = unlisted why name u.0.unread
  list_end why name (inr (inr (inl u))) = no_files why name u.0
  list_end why name (inr (inr (inr h))) = absurd (never_held h.replayed.events h.replayed.held)

module _ (status : ℕ) (words : List (List ℕ)) (task : Task) (old new : Seen) (refused : Refused) (A B : Type 0)
    (asks : IsInvocation words task)
    (caused : Caused refused.failure refused.name.now task old new)
    (told : ((status ≡ status_of refused.failure) × A) ⊎ ((status ≡ 209) × B)) where
  fails : (events : List ℕ) (ask : Invocation) → IsReplay words events ask
      → ReplayFails refused.failure refused.name.now events ask old.shelf.files old.shelf.faults new.shelf.faults
      (changed old.out new.out)
  fails events ask is =
      (subst (λ (t : Task). Caused refused.failure refused.name.now t old new)
      (one_task words task (replay events ask) asks is) caused).0

  pub list_refused_told : (events : List ℕ) (ask : Invocation) (line : ℕ) (made : Result Bundle BundleError)
      → IsReplay words events ask → IsNoList old.shelf.files events line
      → FilesMake old.shelf.files ask.names made → (status ≡ 204) ⊎ (status ≡ 209)
      ⊎ Rose old.shelf.faults new.shelf.faults
  list_refused_told events ask line made is bad holds =
      by told (list_end old.shelf.files old.shelf.faults new.shelf.faults
      (changed old.out new.out) events ask line made bad holds refused.failure refused.name.now
      (fails events ask is))
    where
      by : ((status ≡ status_of refused.failure) × A) ⊎ ((status ≡ 209) × B)
          → IsListEnd refused.failure old.shelf.faults new.shelf.faults
          → (status ≡ 204) ⊎ (status ≡ 209) ⊎ Rose old.shelf.faults new.shelf.faults
      by (inr t) e = inr (inl t.0)
      by (inl t) (inl e) = inl (t.0 ∙ e)
      by (inl t) (inr (inl e)) = inr (inl (t.0 ∙ e))
      by (inl t) (inr (inr rose)) = inr (inr rose)

-- ---- a file that is a list

module _ (files : Files) (before after : ℕ) (out : Change) (events : List ℕ) (ask : Invocation) (list : List Event)
    (told : IsSome files) (held : IsListFile files events list) where
  unlisted_not : (why : Failure) (name : List ℕ) → Unread IsFirstBad why name events files before after
      → (why ≡ failure.ShelfFailed) × Rose before after
  unlisted_not failure.ShelfFailed name h = (refl, h.1)
  unlisted_not failure.NoFile name h = absurd (held_or_lacking files events held.content told held.fetched h.1)
  unlisted_not (failure.Script n) name h =
      absurd (held_or_bad files events h.1.content list n told held h.1.fetched h.1.bad)
  unlisted_not failure.Memory name h = absurd h
  unlisted_not failure.TooLong name h = absurd h
  unlisted_not (failure.Source reason number) name h = absurd h
  unlisted_not (failure.Fatal kind n) name h = absurd h
  unlisted_not (failure.Bound steps) name h = absurd h
  unlisted_not failure.Output name h = absurd h
  unlisted_not (failure.Differs n wanted found) name h = absurd h
  unlisted_not failure.PeerEnd name h = absurd h
  unlisted_not (failure.Packet offset) name h = absurd h
  unlisted_not failure.Network name h = absurd h
  unlisted_not failure.Stopped name h = absurd h
  unlisted_not (failure.Lies line) name h = absurd h

  no_script : (why : Failure) (cause : ProgramError) → why ≡ program_failure cause → status_of why ≡ 204 → ⊥
  no_script why (none.Shelf file) is e = omega (arith, ap status_of is, e)
  no_script why (none.Missing file) is e = omega (arith, ap status_of is, e)
  no_script why (none.TooLong file) is e = omega (arith, ap status_of is, e)
  no_script why (none.Source file cause) is e =
      ⊎_elim (λ bad. omega (arith, ap status_of is, e, bad)) (λ memory. omega (arith, ap status_of (is ∙ memory), e))
      (bad_source cause)
  no_script why none.Memory is e = omega (arith, ap status_of is, e)

  no_refusal : (why : Failure) (name : List ℕ) → ReplayFails why name events ask files before after out
      → status_of why ≡ 204 → ⊥
  no_refusal why name (inl memory) e = omega (arith, ap status_of memory.0, e)
  no_refusal why name (inr (inl u)) e = omega (arith, ap status_of (unlisted_not why name u.0.unread).0, e)
  no_refusal why name (inr (inr (inl u))) e = no_script why u.0.cause u.0.reported.0 e
  no_refusal why name (inr (inr (inr h))) e = omega (arith, ap status_of h.is_why, e)

  -- where no count rose, and the files are not told as bad
  memory_alone : (why : Failure) (name : List ℕ) → IsGood why → (Rose before after → ⊥)
      → (Rose out.faults_before out.faults → ⊥)
      → ReplayFails why name events ask files before after out → status_of why ≡ 209
  memory_alone why name good shelf sink (inl memory) = ap status_of memory.0
  memory_alone why name good shelf sink (inr (inl u)) = absurd (shelf (unlisted_not why name u.0.unread).1)
  memory_alone why name good shelf sink (inr (inr (inl u))) =
      no_program why files before after ask.names good shelf u.0.cause u.0.caused u.0.reported.0
  memory_alone why name good shelf sink (inr (inr (inr h))) = absurd (sink h.replayed.replays.0)

module _ (status : ℕ) (words : List (List ℕ)) (task : Task) (old new : Seen) (refused : Refused) (A B : Type 0)
    (asks : IsInvocation words task)
    (caused : Caused refused.failure refused.name.now task old new)
    (told : ((status ≡ status_of refused.failure) × A) ⊎ ((status ≡ 209) × B)) where
  pub list_held_told : (events : List ℕ) (ask : Invocation) (list : List Event) → IsReplay words events ask
      → IsSome old.shelf.files → IsListFile old.shelf.files events list
      → status ≡ 204 → ⊥
  list_held_told events ask list is some held e = by told where
    by : ((status ≡ status_of refused.failure) × A) ⊎ ((status ≡ 209) × B) → ⊥
    by (inr t) = omega (arith, t.0, e)
    by (inl t) =
        no_refusal old.shelf.files old.shelf.faults new.shelf.faults
        (changed old.out new.out) events ask list some held refused.failure refused.name.now
        (fails status words task old new refused A B asks caused told events ask is) (sym t.0 ∙ e)

  pub complete_replay_told : (events : List ℕ) (ask : Invocation) (list : List Event) → IsReplay words events ask
      → IsSome old.shelf.files → IsListFile old.shelf.files events list
      → IsGood refused.failure → NoneRose old new → (status ≡ 0) ⊎ (status ≡ 209)
  complete_replay_told events ask list is some held good none = by told where
    by : ((status ≡ status_of refused.failure) × A) ⊎ ((status ≡ 209) × B) → (status ≡ 0) ⊎ (status ≡ 209)
    by (inr t) = inr t.0
    by (inl t) =
        inr (t.0 ∙ memory_alone old.shelf.files old.shelf.faults new.shelf.faults
        (changed old.out new.out) events ask list some held refused.failure refused.name.now good
        none.shelf none.out_not (fails status words task old new refused A B asks caused told events ask is))

-- ---- a replay that went well

module _ (status : ℕ) (words : List (List ℕ)) (task : Task) (old new : Seen) (asks : IsInvocation words task)
    (does : Does status task old new) where
  replays_so : (events : List ℕ) (ask : Invocation) → IsReplay words events ask
      → (status ≡ 0) × IsReplayed (Ok tt) events ask old.shelf.files (changed old.out new.out)
  replays_so events ask is =
      (subst (λ (t : Task). Does status t old new) (one_task words task (replay events ask) asks is) does).0

  pub replays_well : (events : List ℕ) (ask : Invocation) → IsReplay words events ask → status ≡ 0
  replays_well events ask is = (replays_so events ask is).0

  pub list_refused_done : (events : List ℕ) (ask : Invocation) (line : ℕ) (made : Result Bundle BundleError)
      → IsReplay words events ask → IsNoList old.shelf.files events line
      → FilesMake old.shelf.files ask.names made → ⊥
  list_refused_done events ask line made is bad holds =
      let r = (replays_so events ask is).1 in
      held_or_bad old.shelf.files events bad.content r.events line holds.tells r.held bad.fetched bad.bad

-- it is a replay of these
pub asks_replay : (words : List (List ℕ)) (task : Task) (events : List ℕ) (ask : Invocation) → IsInvocation words task
    → IsReplay words events ask → task ≡ replay events ask
asks_replay words task events ask asks is = one_task words task (replay events ask) asks is

-- likewise what is held of it
pub complete_with : {A : Type 0} (events other : List ℕ) (ask asked : Invocation) (task : Task)
    (result : Result A Refused)
    (old new : Seen) → task ≡ replay other asked → task ≡ replay events ask
    → AreCompleteWith other asked result old new → AreCompleteWith events ask result old new
complete_with {A} events other ask asked task result old new p q h =
    let both : replay other asked ≡ replay events ask = sym p ∙ q in
    let same_events : other ≡ events = cc in
    let same_ask : asked ≡ ask = cc in
    subst (λ (e : List ℕ). AreCompleteWith {A = A} e ask result old new) same_events
    (subst (λ (a : Invocation). AreCompleteWith {A = A} other a result old new) same_ask h)
