-- What a replay came to decides the end of `replay`.
use Rattle.std.proofs.Common.{◌≡◌, ◌⊎◌, inl, inr, false, ℕ, suc, ◌≤◌, List, [], ◌∷◌, length, take, None, Some, IsSome, Result, Ok, Err, refl, sym, ap, ◌∙◌, subst, arith, append_assoc}
use Rattle.std.specs.Prelude.{IfOk}
use Rattle.dp_outside.specs.Causes.{Rose}
use Rattle.dp_outside.specs.Changes.{Change, IsUntouched}
use Rattle.dp_outside.specs.Files.{Fetches}
use Rattle.dp_outside.specs.Reports.{grown}
use Rattle.dp_bundle.specs.Bundles.{Given, Makes}
use Rattle.dp_tree.specs.declared.bundle.Bundle.{Bundle}
use Rattle.dp_bundle.specs.declared.errors.BundleError.{BundleError}
use Rattle.dp_events.specs.declared.event.Event.{Event}
use Rattle.dp_events.specs.Lists.{IsFirstBad}
use Rattle.dp_events.proofs.ListLaws.{bad_excludes}
use Rattle.dp_program.specs.declared.errors.ProgramError.{ProgramError}
use Rattle.dp_program.specs.declared.errors.ProgramError.TheVariants as none
use Rattle.dp_program.specs.Programs.{AreFetched, Files, IsComplete as IsRunComplete, IsUnmade, IsUnread, NamesMake, ProgramCaused, RequestedNames}
use Rattle.dp_program.proofs.RunLaws.{program_caused, program_made}
use Rattle.dp_world.specs.declared.errors.ReplayError.TheVariants as ends
use Rattle.dp_top.specs.Engines.{engines_of}
use Rattle.dp_world.specs.Replays.{Replays}
use Rattle.dp_top.specs.declared.failures.Failure.{Failure}
use Rattle.dp_top.specs.declared.failures.Failure.TheVariants as failure
use Rattle.dp_top.specs.declared.failures.Refused.{Refused}
use Rattle.dp_top.specs.Failures.{status_of}
use Rattle.dp_top.specs.inner.Completeness.{IsComplete}
use Rattle.dp_top.specs.Replay.{FetchedBefore, IsListFile, ReadBefore, ReplayFails}
use Rattle.dp_top.specs.Lines.{IsBadAt, Unread, lines_limit}
use Rattle.dp_top.specs.Runs.{AreFetched as OnlyFetched, IsProgramReported}
use Rattle.dp_top.specs.inner.BadLines.{AreNone, UnreadSo, is_bad_line}
use Rattle.dp_top.specs.inner.EventLists.{EndsOver, EndsReplay, IsWholeList}
use Rattle.dp_top.proofs.LineLaws.{held_or_lacking, same_content}
use Rattle.dp_words.specs.Words.{Invocation}

-- ---- the list

pub unlisted_fails : (why : Failure) (name events : List ℕ) (ask : Invocation) (files : Files) (before after : ℕ)
    (out : Change)
    → UnreadSo IsFirstBad why name events files before after → FetchedBefore why ask files → IsUntouched out
    → ReplayFails why name events ask files before after out
unlisted_fails why name events ask files before after out (inl memory) fetched idle = inl (memory, inl idle)
unlisted_fails why name events ask files before after out (inr unlisted) fetched idle =
    inr (inl (record { unread = unlisted; fetched = fetched }, idle))

-- no line was refused
pub none_bad : (why : Failure) (ask : Invocation) (files : Files) → is_bad_line why ≡ false
    → FetchedBefore why ask files
none_bad (failure.Script line) ask files fine = absurd cc
none_bad failure.TooLong ask files fine = tt
none_bad (failure.Source reason number) ask files fine = tt
none_bad failure.ShelfFailed ask files fine = tt
none_bad failure.NoFile ask files fine = tt
none_bad (failure.Fatal kind line) ask files fine = tt
none_bad (failure.Bound steps) ask files fine = tt
none_bad failure.Output ask files fine = tt
none_bad (failure.Differs line wanted found) ask files fine = tt
none_bad failure.PeerEnd ask files fine = tt
none_bad (failure.Packet offset) ask files fine = tt
none_bad failure.Network ask files fine = tt
none_bad failure.Stopped ask files fine = tt
none_bad (failure.Lies line) ask files fine = tt
none_bad failure.Memory ask files fine = tt

-- the files were fetched, so they were before whatever is refused
pub all_before : (why : Failure) (ask : Invocation) (files : Files) (fetched : List Given)
    → AreFetched files ask.names fetched → FetchedBefore why ask files
all_before (failure.Script line) ask files fetched are = (fetched, are)
all_before failure.TooLong ask files fetched are = tt
all_before (failure.Source reason number) ask files fetched are = tt
all_before failure.ShelfFailed ask files fetched are = tt
all_before failure.NoFile ask files fetched are = tt
all_before (failure.Fatal kind line) ask files fetched are = tt
all_before (failure.Bound steps) ask files fetched are = tt
all_before failure.Output ask files fetched are = tt
all_before (failure.Differs line wanted found) ask files fetched are = tt
all_before failure.PeerEnd ask files fetched are = tt
all_before (failure.Packet offset) ask files fetched are = tt
all_before failure.Network ask files fetched are = tt
all_before failure.Stopped ask files fetched are = tt
all_before (failure.Lies line) ask files fetched are = tt
all_before failure.Memory ask files fetched are = tt

pub held_list : (files : Files) (name content : List ℕ) (events : List Event) → Fetches files name lines_limit content
    → IsWholeList content events → IsListFile files name events
held_list files name content events fetched whole =
    record { content = content; fetched = fetched; fits = whole.fits; is_list = whole.is_list }

-- a list is not bad, and not lacking
pub held_or_bad : (files : Files) (name content : List ℕ) (events : List Event) (line : ℕ) → IsSome files
    → IsListFile files name events → Fetches files name lines_limit content
    → IsBadAt IsFirstBad content line → ⊥
held_or_bad files name content events line told held fetched bad = by bad where
  same : content ≡ held.content
  same = same_content files name lines_limit content held.content told fetched held.fetched

  by : IsBadAt IsFirstBad content line → ⊥
  by (inl long) = omega (arith, long.1, ap length same, held.fits)
  by (inr first) =
      bad_excludes held.content line events (subst (λ (l : List ℕ). IsFirstBad l line) same first.1) held.is_list

-- out of memory is no bad source, and told where there is one
memory_complete : (asked : Result Bundle BundleError) (refused : Refused) (before after : ℕ)
    → refused.failure ≡ failure.Memory → IsComplete {A = ℕ} asked (Err refused) before after
memory_complete (Ok program) refused before after is = (
  (λ e. omega (arith, ap status_of is, e)),
  (λ e. let clash : failure.Memory ≡ failure.NoFile = sym is ∙ e in absurd
      cc),
)
memory_complete (Err e) refused before after is = inl (inr is)

module _ (files : Files) (before after : ℕ) (events : List ℕ) (list : List Event) (held : IsListFile files events list)
    (told : IsSome files) (asked : Result Bundle BundleError)
    (refused : Refused) where
  -- bytes that are no list
  pub bad_held : (content : List ℕ) → Fetches files events lines_limit content
      → AreNone IsFirstBad refused.failure refused.name.now content
      → IsComplete {A = ℕ} asked (Err refused) before after
  bad_held content fetched bad = by refused.failure refl bad where
    by : (why : Failure) → refused.failure ≡ why → AreNone IsFirstBad why refused.name.now content
        → IsComplete {A = ℕ} asked (Err refused) before after
    by (failure.Script line) is b = absurd (held_or_bad files events content list line told held fetched b.1)
    by failure.Memory is b = memory_complete asked refused before after is
    by failure.TooLong is b = absurd b
    by (failure.Source reason number) is b = absurd b
    by failure.ShelfFailed is b = absurd b
    by failure.NoFile is b = absurd b
    by (failure.Fatal kind line) is b = absurd b
    by (failure.Bound steps) is b = absurd b
    by failure.Output is b = absurd b
    by (failure.Differs line wanted found) is b = absurd b
    by failure.PeerEnd is b = absurd b
    by (failure.Packet offset) is b = absurd b
    by failure.Network is b = absurd b
    by failure.Stopped is b = absurd b
    by (failure.Lies line) is b = absurd b

  -- a list that was not fetched
  pub unlisted_held : UnreadSo IsFirstBad refused.failure refused.name.now events files before after
      → IsComplete {A = ℕ} asked (Err refused) before after
  unlisted_held (inl memory) = memory_complete asked refused before after memory
  unlisted_held (inr unlisted) = by refused.failure refl unlisted where
    failed : (a : Result Bundle BundleError) → refused.failure ≡ failure.ShelfFailed → Rose before after
        → IsComplete {A = ℕ} a (Err refused) before after
    failed (Ok program) is rose = (
      (λ e. omega (arith, ap status_of is, e)),
      (λ e. let clash : failure.ShelfFailed ≡ failure.NoFile = sym is ∙ e
          in absurd cc),
    )
    failed (Err e) is rose = inr rose

    by : (why : Failure) → refused.failure ≡ why → Unread IsFirstBad why refused.name.now events files before after
        → IsComplete {A = ℕ} asked (Err refused) before after
    by failure.ShelfFailed is u = failed asked is u.1
    by failure.NoFile is u = absurd (held_or_lacking files events held.content told held.fetched u.1)
    by (failure.Script line) is u =
        absurd (held_or_bad files events u.1.content list line told held u.1.fetched u.1.bad)
    by failure.Memory is u = absurd u
    by failure.TooLong is u = absurd u
    by (failure.Source reason number) is u = absurd u
    by (failure.Fatal kind line) is u = absurd u
    by (failure.Bound steps) is u = absurd u
    by failure.Output is u = absurd u
    by (failure.Differs line wanted found) is u = absurd u
    by failure.PeerEnd is u = absurd u
    by (failure.Packet offset) is u = absurd u
    by failure.Network is u = absurd u
    by failure.Stopped is u = absurd u
    by (failure.Lies line) is u = absurd u

-- a list that was replayed over a program
pub over_complete : (asked : Result Bundle BundleError) (program : Bundle) (result : Result ℕ Refused)
    (list : List Event)
    (bound before after : ℕ) (out : Change)
    → IsRunComplete {A = Bundle} asked (Ok program) before after → EndsOver result list program bound out
    → IsComplete asked result before after
over_complete (Err e) program result list bound before after out h over = absurd h
over_complete (Ok made) program (Ok status) list bound before after out h over = tt
over_complete (Ok made) program (Err why) list bound before after out h over = by over.1 where
  good : (w : Failure) → why.failure ≡ w → (status_of w ≡ 201 → ⊥) → (w ≡ failure.NoFile → ⊥)
      → (status_of why.failure ≡ 201 → ⊥) × (why.failure ≡ failure.NoFile → ⊥)
  good w is p q = ((λ e. p (sym (ap status_of is) ∙ e)), (λ e. q (sym is ∙ e)))

  by : ((why.failure ≡ failure.Output) × Replays (Err ends.OutFault) (engines_of program bound) list out)
      ⊎ ((why.failure ≡ failure.Memory) × Replays (Err ends.Memory) (engines_of program bound) list out)
      → (status_of why.failure ≡ 201 → ⊥) × (why.failure ≡ failure.NoFile → ⊥)
  by (inl o) = good failure.Output o.0 (λ e. omega (arith, e)) (λ e. absurd cc)
  by (inr m) = good failure.Memory m.0 (λ e. omega (arith, e)) (λ e. absurd cc)

-- ---- what was fetched

module _ (files : Files) (before after : ℕ) (events : List ℕ) (ask : Invocation) (out : Change) where
  module _ (list : List Event) (held : IsListFile files events list) where
    read_before : (why : ProgramError) → ReadBefore why files events
    read_before (none.TooLong file) = (list, held)
    read_before (none.Source file why) = (list, held)
    read_before (none.Shelf file) = (held.content, held.fetched)
    read_before (none.Missing file) = (held.content, held.fetched)
    read_before none.Memory = tt

    module _ (fetched : List Given) (are : AreFetched files ask.names fetched) where
      -- the files make no program
      pub unmade_fails : (cause : ProgramError) (why : Failure) (name : List ℕ) → IsUnmade fetched cause
          → IsProgramReported why name ask cause → IsUntouched out
          → ReplayFails why name events ask files before after out
      unmade_fails cause why name made told idle =
          inr (inr (inl (
            record {
              cause = cause;
              caused = program_caused files before after ask.names fetched are (Err cause) made;
              read = read_before cause;
              reported = told;
            },
            idle,
          )))

      -- the list was replayed over the program
      pub over_ends : (result : Result ℕ Refused) (program : Bundle) → Makes fetched (Ok program)
          → EndsOver result list program ask.bound out
          → EndsReplay result events ask files before after out
      over_ends (Ok status) program makes h = (
        h.0,
        record {
          events = list;
          held = held;
          program = program;
          made = program_made files before after ask.names fetched are (Ok program) makes;
          replays = h.1;
        },
      )
      over_ends (Err why) program makes h = by h.1 where
        made : NamesMake files ask.names (Ok program)
        made = program_made files before after ask.names fetched are (Ok program) makes

        by : ((why.failure ≡ failure.Output) × Replays (Err ends.OutFault) (engines_of program ask.bound) list out)
            ⊎ ((why.failure ≡ failure.Memory) × Replays (Err ends.Memory) (engines_of program ask.bound) list out)
            → ReplayFails why.failure why.name.now events ask files before after out
        by (inl e) = inr (inr (inr (record {
          is_why = e.0;
          is_name = h.0;
          replayed = record { events = list; held = held; program = program; made = made; replays = e.1 };
        })))
        by (inr e) =
            inl (
              e.0,
              inr (
                Err ends.Memory,
                record {
                  events = list;
                  held = held;
                  program = program;
                  made = made;
                  replays
                      = e.1;
                },
              ),
            )

  pub since : (first : ℕ) → before ≤ first → (c : ProgramError) → ProgramCaused c files first after ask.names
      → ProgramCaused c files before after ask.names
  since first earlier (none.Shelf file) h = (h.0, (let rose = h.1 in omega arith))
  since first earlier (none.Missing file) h = h
  since first earlier (none.TooLong file) h = h
  since first earlier (none.Source file why) h = h
  since first earlier none.Memory h = tt

  -- the files were not fetched
  pub unfetched_fails : (cause : ProgramError) (why : Failure) (name : List ℕ) (first : ℕ) (content : List ℕ)
      → before ≤ first → Fetches files events lines_limit content
      → ProgramCaused cause files first after ask.names → IsUnread cause
      → IsProgramReported why name ask cause → IsUntouched out → ReplayFails why name events ask files before after out
  unfetched_fails cause why name first content earlier listed caused unread told idle =
      inr (inr (inl (
        record {
          cause = cause;
          caused = since first earlier cause caused;
          read = unread_before cause
              unread;
          reported = told;
        },
        idle,
      )))
    where
      unread_before : (c : ProgramError) → IsUnread c → ReadBefore c files events
      unread_before (none.Shelf file) u = (content, listed)
      unread_before (none.Missing file) u = (content, listed)
      unread_before none.Memory u = tt
      unread_before (none.TooLong file) u = absurd u
      unread_before (none.Source file why) u = absurd u

pub status_small : (result : Result ℕ Refused) (events : List ℕ) (ask : Invocation) (files : Files) (before after : ℕ)
    (out : Change)
    → EndsReplay result events ask files before after out → IfOk result (λ status. status ≤ 199)
status_small (Ok status) events ask files before after out h = omega (arith, h.0)
status_small (Err why) events ask files before after out h = tt

-- ---- which files are fetched

grown_twice : (told : RequestedNames) (first : List ℕ) (names : List (List ℕ))
    → grown (grown told (first ∷ [])) names ≡ grown told (first ∷ names)
grown_twice None first names = refl
grown_twice (Some told) first names = ap Some (append_assoc told (first ∷ []) names)

pub first_and : (before mid after : RequestedNames) (first : List ℕ) (names : List (List ℕ)) → mid ≡ grown before
    (first ∷ [])
    → OnlyFetched names mid after → OnlyFetched (first ∷ names) before after
first_and before mid after first names e h =
    (suc h.0, h.1 ∙ ap (λ (t : RequestedNames). grown t (take h.0 names)) e ∙ grown_twice before first (take h.0 names))
