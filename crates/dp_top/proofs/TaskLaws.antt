-- The answers of the call: what the words ask for, why it failed, and what is told of it.
use Rattle.std.proofs.Common.{◌≡◌, ◌⊎◌, ℕ, ◌<◌, ◌≤◌, List, Option, None, Some, Ok, Err, refl, sym, ap, ◌∙◌, subst, arith, inl, inr, ⊎_elim, codes, [], ◌∷◌, ◌++◌, zero, suc, ◌+◌, false}
use Rattle.std.specs.Prelude.{if◌then◌else◌, option_and_then}
use Rattle.std.specs.Option.{option_map, option_map_or}
use Rattle.std.specs.Str.{bytes_eq}
use Rattle.dp_bytes.specs.Decimals.{decimal_in}
use Rattle.dp_outside.specs.Causes.{Rose}
use Rattle.dp_outside.specs.Changes.{Change}
use Rattle.dp_show.specs.declared.errors.ShowError.TheVariants as ends
use Rattle.dp_show.proofs.ShowLaws.{cut_of}
use Rattle.dp_top.specs.declared.failures.Failure.{Failure}
use Rattle.dp_top.specs.declared.failures.Failure.TheVariants as failure
use Rattle.dp_tree.specs.declared.bundle.Bundle.{Bundle}
use Rattle.dp_engine.specs.declared.service.ServeEnd.{ServeEnd}
use Rattle.dp_engine.specs.declared.service.ServeEnd.TheVariants as serve
use Rattle.dp_engine.specs.Service.{CutBy, EndsBy, IsCut, ServesTo}
use Rattle.dp_engine.specs.declared.session.SessionEnd.{SessionEnd}
use Rattle.dp_program.specs.declared.errors.ProgramError.{ProgramError}
use Rattle.dp_program.specs.declared.errors.ProgramError.TheVariants as none
use Rattle.dp_program.specs.declared.errors.RunError.{RunError}
use Rattle.dp_program.specs.declared.errors.RunError.TheVariants as end
use Rattle.dp_program.specs.Programs.{Files, FilesMake, ProgramCaused, RequestedNames}
use Rattle.dp_program.specs.Runs.{RunCaused}
use Rattle.dp_state.specs.declared.moments.Outcome.{Outcome}
use Rattle.dp_state.specs.declared.moments.Outcome.TheVariants as way
use Rattle.dp_top.specs.declared.failures.Refused.{Refused}
use Rattle.dp_words.specs.Words.{Address, Invocation, IsEngine, IsProxy, IsRun, IsSoak, IsTalk, Service, Task, run, talk, tape, audit, dap, engine, async, ide, replay, soak, proxy, show, IsInvocation, invocation_in, invocation_of, port_of, seed_limit, served_count_of, session_count_of, uses_net, uses_shelf, uses_spawner}
use Rattle.dp_outside.specs.Links.{CountsReturned}
use Rattle.dp_top.specs.Engine.{EngineFails, EndsSo as EngineEnds}
use Rattle.dp_top.specs.Links.{IsDialled}
use Rattle.dp_top.specs.Failures.{status_of, line_of, Says}
use Rattle.dp_top.specs.Ide.{IdeFails}
use Rattle.dp_crews.specs.Relays.{Faults, faults}
use Rattle.dp_top.specs.Proxy.{HasFailed, ProxyCause, ProxyFails}
use Rattle.dp_top.specs.Replay.{ReplayFails}
use Rattle.dp_world.specs.declared.errors.ReplayError.TheVariants as replayed
use Rattle.dp_top.specs.Runs.{RunFails, failure_of as failure_told, program_failure}
use Rattle.dp_top.specs.inner.Completeness.{AreComplete, IsBadSource, IsGood}
use Rattle.dp_top.specs.Seen.{Net, NoneRose, Seen, Stream, changed}
use Rattle.dp_top.specs.Soak.{SoakFails}
use Rattle.dp_top.specs.Talk.{EndReport, EndsSo, TalkFails, ended, judged_by}
use Rattle.dp_top.specs.Tasks.{ShowCaused, Does, Caused, Fails, IsFetchedFor, before_line}
use Rattle.dp_top.proofs.RunReports.{bad_source, nothing_fetched}
use Rattle.dp_top.proofs.AsyncLaws.{async_starved}
use Rattle.dp_top.proofs.DapLaws.{dap_starved}
use Rattle.dp_top.proofs.RecordLaws.{audit_starved, tape_starved}
use Rattle.dp_program.proofs.GrownNames.{grown_by_none}

-- ---- the task that words ask for

abbrev asked_talk : ℕ → List (List ℕ) → Option Task
asked_talk bound [] = None
asked_talk bound (key ∷ names) = Some (talk key (record { bound = bound; names = names }))

abbrev asked_tape : ℕ → List (List ℕ) → Option Task
asked_tape bound [] = None
asked_tape bound (key ∷ names) = Some (tape key (record { bound = bound; names = names }))

abbrev asked_audit : ℕ → List (List ℕ) → Option Task
asked_audit bound [] = None
asked_audit bound (key ∷ names) = Some (audit key (record { bound = bound; names = names }))

abbrev asked_engine : ℕ → List (List ℕ) → Option Task
asked_engine bound (host ∷ number ∷ key ∷ names) =
    option_map (λ port. engine (record { host = host; port = port }) key (record { bound = bound; names = names }))
    (port_of number)
asked_engine bound names = None

abbrev asked_async : ℕ → List (List ℕ) → Option Task
asked_async bound (host ∷ number ∷ key ∷ names) =
    option_map (λ port. async (record { host = host; port = port }) key (record { bound = bound; names = names }))
    (port_of number)
asked_async bound names = None

abbrev asked_ide : List (List ℕ) → Option Task
asked_ide (number ∷ script ∷ []) = option_map (λ port. ide port script) (port_of number)
asked_ide words = None

abbrev asked_replay : ℕ → List (List ℕ) → Option Task
asked_replay bound [] = None
asked_replay bound (events ∷ names) = Some (replay events (record { bound = bound; names = names }))

abbrev asked_soak : List (List ℕ) → Option Task
asked_soak (number ∷ drawn ∷ []) =
    option_and_then (λ count. option_map (λ seed. soak count seed) (decimal_in seed_limit drawn))
    (session_count_of number)
asked_soak words = None

abbrev asked_proxy : List (List ℕ) → Option Task
asked_proxy (ides ∷ engines ∷ registrations ∷ sessions ∷ []) =
    option_and_then (λ a. option_and_then (λ b. option_and_then (λ c. option_map (λ d.
    proxy (record { ides = a; engines = b; registrations = c; sessions = d })) (served_count_of sessions))
    (served_count_of registrations)) (port_of engines)) (port_of ides)
asked_proxy words = None

abbrev asked_behind : (ℕ → List (List ℕ) → Option Task) → List (List ℕ) → Option Task
asked_behind asked behind =
    option_and_then (λ (ask : Invocation). asked ask.bound ask.names) (invocation_of behind)

-- by the name of the command
abbrev asked_by : List ℕ → List (List ℕ) → Option Task
asked_by name behind =
    if bytes_eq name (codes "run") then option_map run (invocation_of behind)
    else (if bytes_eq name (codes "talk") then asked_behind asked_talk behind
    else (if bytes_eq name (codes "tape") then asked_behind asked_tape behind
    else (if bytes_eq name (codes "audit") then asked_behind asked_audit behind
    else (if bytes_eq name (codes "dap") then option_map dap (invocation_of behind)
    else (if bytes_eq name (codes "engine") then asked_behind asked_engine behind
    else (if bytes_eq name (codes "async") then asked_behind asked_async behind
    else (if bytes_eq name (codes "ide") then asked_ide behind
    else (if bytes_eq name (codes "replay") then asked_behind asked_replay behind
    else (if bytes_eq name (codes "soak") then asked_soak behind
    else (if bytes_eq name (codes "proxy") then asked_proxy behind else Some show))))))))))

abbrev asked : List (List ℕ) → Option Task
asked [] = None
asked (name ∷ behind) = asked_by name behind

asked_so : (words : List (List ℕ)) (task : Task) → IsInvocation words task → asked words ≡ Some task
asked_so words (run ask) h = ap asked h.words_are ∙ ap (option_map run) h.follows.invocation
asked_so words (talk key ask) h =
    ap asked h.words_are
    ∙ ap (option_and_then (λ (a : Invocation). asked_talk a.bound a.names)) h.speaks.invocation
asked_so words (tape key ask) h =
    ap asked h.words_are
    ∙ ap (option_and_then (λ (a : Invocation). asked_tape a.bound a.names)) h.speaks.invocation
asked_so words (audit key ask) h =
    ap asked h.words_are
    ∙ ap (option_and_then (λ (a : Invocation). asked_audit a.bound a.names)) h.speaks.invocation
asked_so words (dap ask) h = ap asked h.words_are ∙ ap (option_map dap) h.follows.invocation
asked_so words (engine address key ask) h =
    ap asked h.words_are
    ∙ ap (option_and_then (λ (a : Invocation). asked_engine a.bound a.names)) h.dials.invocation
    ∙ ap (option_map (λ port. engine (record { host = address.host; port = port }) key ask)) h.dials.port
asked_so words (async address key ask) h =
    ap asked h.words_are
    ∙ ap (option_and_then (λ (a : Invocation). asked_async a.bound a.names)) h.dials.invocation
    ∙ ap (option_map (λ port. async (record { host = address.host; port = port }) key ask)) h.dials.port
asked_so words (ide port script) h =
    ap asked h.words_are ∙ ap (option_map (λ p. ide p script)) h.is_port
asked_so words (replay events ask) h =
    ap asked h.words_are
    ∙ ap (option_and_then (λ (a : Invocation). asked_replay a.bound a.names)) h.replays.invocation
asked_so words (soak count seed) h =
    ap asked h.words_are
    ∙ ap (option_and_then (λ n. option_map (λ d. soak n d) (decimal_in seed_limit h.drawn))) h.is_count
    ∙ ap (option_map (λ d. soak count d)) h.is_seed
asked_so words (proxy service) h =
    ap asked h.words_are
    ∙ ap (option_and_then (λ a. option_and_then (λ b. option_and_then (λ c. option_map (λ d.
    proxy (record { ides = a; engines = b; registrations = c; sessions = d })) (served_count_of h.sessions))
    (served_count_of h.registrations)) (port_of h.engines))) h.is_ides
    ∙ ap (option_and_then (λ b. option_and_then (λ c. option_map (λ d.
    proxy (record { ides = service.ides; engines = b; registrations = c; sessions = d })) (served_count_of h.sessions))
    (served_count_of h.registrations))) h.is_engines
    ∙ ap (option_and_then (λ c. option_map (λ d.
    proxy (record { ides = service.ides; engines = service.engines; registrations = c; sessions = d }))
    (served_count_of h.sessions))) h.is_registrations
    ∙ ap (option_map (λ d. proxy (record {
      ides = service.ides;
      engines = service.engines;
      registrations = service.registrations;
      sessions = d;
    }))) h.is_sessions
asked_so words show h = ap asked h

-- the words ask for one task
pub one_task : (words : List (List ℕ)) (task other : Task) → IsInvocation words task → IsInvocation words other
    → task ≡ other
one_task words task other p q =
    let same : Some task ≡ Some other = sym (asked_so words task p) ∙ asked_so words other q in
    ap (λ (o : Option Task). option_map_or (λ t. t) o task) same

-- ---- failures

show_cut : (failed : Failure) (input out : Change) → ShowCaused failed input out → ShowCaused failure.Memory input out
show_cut failure.PeerEnd input out h = cut_of ends.PeerEnd input out h
show_cut (failure.Packet offset) input out h = cut_of (ends.BadPacket offset) input out h
show_cut failure.Network input out h = cut_of ends.ReadFault input out h
show_cut failure.Output input out h = cut_of ends.OutFault input out h
show_cut failure.Memory input out h = h
show_cut failure.TooLong input out h = absurd h
show_cut (failure.Source reason number) input out h = absurd h
show_cut failure.Stopped input out h = absurd h
show_cut (failure.Lies line) input out h = absurd h
show_cut failure.ShelfFailed input out h = absurd h
show_cut (failure.Fatal kind line) input out h = absurd h
show_cut (failure.Bound steps) input out h = absurd h
show_cut failure.NoFile input out h = absurd h
show_cut (failure.Script line) input out h = absurd h
show_cut (failure.Differs line wanted found) input out h = absurd h

-- the name that is told where memory ran out
abbrev memory_name : Task → List ℕ → List ℕ
memory_name (run ask) name = []
memory_name (talk key ask) name = name
memory_name (tape key ask) name = name
memory_name (audit key ask) name = name
memory_name (dap ask) name = name
memory_name (engine address key ask) name = name
memory_name (async address key ask) name = name
memory_name (ide port script) name = name
memory_name (replay events ask) name = name
memory_name (soak count seed) name = name
memory_name (proxy service) name = name
memory_name show name = name

-- memory ran out once a session was served, or there was none
talk_starved : (failed : Failure) (name key : List ℕ) (ask : Invocation) (old new : Seen)
    → TalkFails failed name key ask old new → TalkFails failure.Memory name key ask old new
talk_starved failed name key ask old new (inl memory) = inl (refl, memory.1)
talk_starved failed name key ask old new (inr (inl u)) = inl (refl, inl u.idle)
talk_starved failed name key ask old new (inr (inr h)) = inl (refl, inr (h.served, h.is))

engine_starved : (failed : Failure) (name : List ℕ) (address : Address) (key : List ℕ) (ask : Invocation)
    (old new : Seen)
    → EngineFails failed name address key ask old new → EngineFails failure.Memory name address key ask old new
engine_starved failed name address key ask old new (inl memory) = inl (refl, memory.1)
engine_starved failed name address key ask old new (inr (inl u)) = inl (refl, inl u.idle)
engine_starved failed name address key ask old new (inr (inr (inl alone))) = inl (refl, inr (inr (inl alone.2)))
engine_starved failed name address key ask old new (inr (inr (inr h))) = inl (refl, inr (inr (inr (h.served, h.is))))

ide_starved : (failed : Failure) (name : List ℕ) (port : ℕ) (script : List ℕ) (old new : Seen)
    → IdeFails failed name port script old new
    → IdeFails failure.Memory name port script old new
ide_starved failed name port script old new (inl memory) = inl (refl, memory.1)
ide_starved failed name port script old new (inr (inl u)) = inl (refl, inl u.1)
ide_starved failed name port script old new (inr (inr (inl alone))) = inl (refl, inr (inl alone.2))
ide_starved failed name port script old new (inr (inr (inr h))) = inl (refl, inr (inr (Err h.end, h.played)))

replay_starved : (failed : Failure) (name events : List ℕ) (ask : Invocation) (files : Files) (before after : ℕ)
    (out : Change)
    → ReplayFails failed name events ask files before after out
    → ReplayFails failure.Memory name events ask files before after out
replay_starved failed name events ask files before after out (inl memory) = inl (refl, memory.1)
replay_starved failed name events ask files before after out (inr (inl u)) = inl (refl, inl u.1)
replay_starved failed name events ask files before after out (inr (inr (inl u))) = inl (refl, inl u.1)
replay_starved failed name events ask files before after out (inr (inr (inr h))) =
    inl (refl, inr (Err replayed.OutFault, h.replayed))

soak_starved : (failed : Failure) (name : List ℕ) (count seed : ℕ) (out : Change)
    → SoakFails failed name count seed out → SoakFails failure.Memory name count seed out
soak_starved failed name count seed out (inl memory) = inl (refl, memory.1)
soak_starved failed name count seed out (inr h) = inl (refl, inr h.2)

proxy_starved : (failed : Failure) (name : List ℕ) (service : Service) (out : Change) (old new : Net) (starts : Faults)
    → ProxyFails failed name service out old new starts
    → ProxyFails failure.Memory name service out old new starts
proxy_starved failed name service out old new starts h = (h.0, by h.1) where
  by : ProxyCause failed service out old new starts → ProxyCause failure.Memory service out old new starts
  by (inl memory) = inl (refl, memory.1)
  by (inr (inl network)) = inl (refl, inl (network.1.end, network.1.undone))
  by (inr (inr output)) = inl (refl, inr (inr output.1))

-- out of memory may come in place of any failure
memory_instead : (failed : Failure) (name : List ℕ) (task : Task) (old new : Seen) → Caused failed name task old new
    → Caused failure.Memory (memory_name task name) task old new
memory_instead failed name (run ask) old new h =
    (record { why = h.0.why; caused = h.0.caused; reported = inr (refl, refl) }, h.1, h.2, h.3)
memory_instead failed name (talk key ask) old new h = (talk_starved failed name key ask old new h.0, h.1)
memory_instead failed name (tape key ask) old new h = (tape_starved failed name key ask old new h.0, h.1)
memory_instead failed name (audit key ask) old new h = (audit_starved failed name key ask old new h.0, h.1)
memory_instead failed name (dap ask) old new h = (dap_starved failed name ask old new h.0, h.1)
memory_instead failed name (engine address key ask) old new h = engine_starved failed name address key ask old new h
memory_instead failed name (async address key ask) old new h = async_starved failed name address key ask old new h
memory_instead failed name (ide port script) old new h = ide_starved failed name port script old new h
memory_instead failed name (replay events ask) old new h =
    (replay_starved failed name events ask _ _ _ _ h.0, h.1, h.2, h.3)
memory_instead failed name (soak count seed) old new h =
    (soak_starved failed name count seed _ h.0, h.1, h.2, h.3)
memory_instead failed name (proxy service) old new h =
    (proxy_starved failed name service _ _ _ _ h.0, h.1, h.2)
memory_instead failed name show old new h = (h.0, show_cut failed _ _ h.1, h.2, h.3)

-- the failure is told, or there is no memory for its line
pub fails_told : (status : ℕ) (words : List (List ℕ)) (task : Task) (name : List ℕ) (old new : Seen) (err : Stream)
    (failed : Failure) → IsInvocation words task
    → Caused failed name task old (before_line new err) → err.faults ≤ new.err.faults
    → ((status ≡ status_of failed) × Says (changed err new.err) (line_of failed name))
    ⊎ ((status ≡ 209) × Says (changed err new.err) (codes "out of memory\n"))
    → Fails status words old new
fails_told status words task name old new err failed asks caused later (inl told) =
    record {
      task = task;
      asks = asks;
      failure = failed;
      name = name;
      is_status = told.0;
      err = err;
      caused = caused;
      later = later;
      says = told.1;
    }
fails_told status words task name old new err failed asks caused later (inr told) =
    record {
      task = task;
      asks = asks;
      failure = failure.Memory;
      name = memory_name task name;
      is_status = told.0;
      err =
          err;
      caused = memory_instead failed name task old _ caused;
      later = later;
      says = told.1;
    }

-- a failure's status is above 200
above : (failed : Failure) → 200 < status_of failed
above failure.TooLong = omega arith
above (failure.Source reason number) = omega arith
above failure.Stopped = omega arith
above (failure.Lies line) = omega arith
above failure.ShelfFailed = omega arith
above failure.NoFile = omega arith
above (failure.Script line) = omega arith
above (failure.Differs line wanted found) = omega arith
above (failure.Fatal kind line) = omega arith
above (failure.Bound steps) = omega arith
above failure.Output = omega arith
above failure.PeerEnd = omega arith
above (failure.Packet offset) = omega arith
above failure.Network = omega arith
above failure.Memory = omega arith

pub told_above : (status : ℕ) (failed : Failure) (A B : Type 0)
    → ((status ≡ status_of failed) × A) ⊎ ((status ≡ 209) × B) → 200 < status
told_above status failed A B (inl told) = omega (arith, told.0, above failed)
told_above status failed A B (inr told) = omega (arith, told.0)

-- the failure's cause, of the task that is asked for
caused_of : (status : ℕ) (words : List (List ℕ)) (old new : Seen) (f : Fails status words old new) → (task : Task)
    → IsInvocation words task → Caused f.failure f.name task old (before_line new f.err)
caused_of status words old new f task asks =
    subst (λ (t : Task). Caused f.failure f.name t old (before_line new f.err))
    (one_task words f.task task f.asks asks) f.caused

-- files that are not told as bad, on a shelf that did not fail, make a program unless memory runs out
pub no_program : (failed : Failure) (files : Files) (before after : ℕ) (names : List (List ℕ)) → IsGood failed
    → (Rose before after → ⊥) → (why : ProgramError)
    → ProgramCaused why files before after names → failed ≡ program_failure why → status_of failed ≡ 209
no_program failed files before after names good shelf (none.Shelf file) caused told = absurd (shelf caused.1)
no_program failed files before after names good shelf (none.Missing file) caused told = absurd (good.1 told)
no_program failed files before after names good shelf (none.TooLong file) caused told =
    absurd (good.0 (ap status_of told))
no_program failed files before after names good shelf (none.Source file why) caused told =
    ⊎_elim (λ e. absurd (good.0 (ap status_of told ∙ e))) (λ e. ap status_of (told ∙ e)) (bad_source why)
no_program failed files before after names good shelf none.Memory caused told = ap status_of told

-- ---- `talk`

-- where no count rose and the files are not told as bad, what fails is a packet, the program's end, a stop or memory
module _ (failed : Failure) (name key : List ℕ) (ask : Invocation) (old new : Seen) (good : IsGood failed)
    (none : NoneRose old new) where
  abbrev pub IsTalkEnd : Failure → Type 0
  IsTalkEnd f = (status_of f ≡ 207) ⊎ (status_of f ≡ 210) ⊎ (status_of f ≡ 255) ⊎ (status_of f ≡ 209)

  pub unserved : (why : ProgramError) → ProgramCaused why old.shelf.files old.shelf.faults new.shelf.faults ask.names
      → failed ≡ program_failure why → IsTalkEnd failed
  unserved why caused told = inr (inr (inr (no_program failed _ _ _ ask.names good none.shelf why caused told)))

  abbrev pub failure_in : EndReport → Failure
  failure_in (Ok status) = failure.Memory
  failure_in (Err why) = why.0

  pub by_outcome : (outcome : Option Outcome) → ended ask outcome ≡ Err (failed, name) → IsTalkEnd failed
  by_outcome None e = let same : failure.Stopped ≡ failed = ap failure_in e in inr (inl (sym (ap status_of same)))
  by_outcome (Some way.Done) e = absurd (cc)
  by_outcome (Some (way.Exit status)) e = absurd (cc)
  by_outcome (Some (way.Fatal kind file line)) e =
      let same : failure.Fatal kind line ≡ failed = ap failure_in e in inr (inr (inl (sym (ap status_of same))))
  by_outcome (Some way.Bound) e =
      let same : failure.Bound ask.bound ≡ failed = ap failure_in e in inr (inr (inl (sym (ap status_of same))))

  module _ (h : EndsSo failed name key ask old new) where
    read_fault : (ended_by : Option SessionEnd) (rest read : List ℕ) → h.served.end ≡ serve.ReadFault
        → EndsBy h.served.end ended_by rest read (changed old.input new.input) → Rose old.input.faults new.input.faults
    read_fault ended_by rest read is ends =
        (subst (λ (e : ServeEnd). EndsBy e ended_by rest read (changed old.input new.input)) is ends).2

    abbrev IsCutShort : Type 0
    IsCutShort =
        IsCut h.served h.is.program ask.bound key (changed old.input new.input) (changed old.out new.out)
        (changed old.err new.err)

    cut_by : (e : ServeEnd) → h.served.end ≡ e → (cut : IsCutShort)
        → CutBy e h.served.outcome h.is.program ask.bound cut.done (cut.done ++ cut.last) (changed old.out new.out)
        (changed old.err new.err)
    cut_by e is cut =
        subst (λ (e : ServeEnd). CutBy e h.served.outcome h.is.program ask.bound cut.done (cut.done ++ cut.last)
        (changed old.out new.out) (changed old.err new.err)) is cut.by

    write_fault : h.served.end ≡ serve.WriteFault → IsCutShort → Rose old.out.faults new.out.faults
    write_fault is cut = (cut_by serve.WriteFault is cut).0

    out_fault : h.served.end ≡ serve.OutFault → IsCutShort → Rose old.err.faults new.err.faults
    out_fault is cut = (cut_by serve.OutFault is cut).0

    by_end : (e : ServeEnd) → h.served.end ≡ e
        → ServesTo e h.served h.is.program ask.bound key (changed old.input new.input) (changed old.out new.out)
        (changed old.err new.err) → judged_by failure.Output ask h.served.outcome e ≡ Err (failed, name)
        → IsTalkEnd failed
    by_end serve.Stopped is s e = by_outcome h.served.outcome e
    by_end serve.Detached is s e = by_outcome h.served.outcome e
    by_end serve.LinkEnd is s e = by_outcome h.served.outcome e
    by_end serve.ReadFault is s e = absurd (none.input_not (read_fault _ _ _ is s.ends))
    by_end serve.WriteFault is s e = absurd (none.out_not (write_fault is s))
    by_end serve.OutFault is s e = absurd (none.err_not (out_fault is s))
    by_end (serve.BadCommandFrame offset) is s e =
        let same : failure.Packet offset ≡ failed = ap failure_in e in inl (sym (ap status_of same))
    by_end serve.ByteLimit is s e =
        let same : failure.Packet 4294967295 ≡ failed = ap failure_in e in inl (sym (ap status_of same))
    by_end serve.Memory is s e =
        let same : failure.Memory ≡ failed = ap failure_in e in inr (inr (inr (sym (ap status_of same))))

  talk_end : TalkFails failed name key ask old new → IsTalkEnd failed
  talk_end (inl memory) = inr (inr (inr (ap status_of memory.0)))
  talk_end (inr (inl u)) = unserved u.cause u.caused u.reported.0
  talk_end (inr (inr h)) = by_end h h.served.end refl h.is.serves h.reported

-- what the files of the program that is asked for make decides whether it fails by a bad source
abbrev pub IsNoBadTask : Task → Refused → Seen → Seen → Type 0
IsNoBadTask task refused old new =
    (ask : Invocation) → invocation_in task ≡ Some ask → AreComplete {A = ℕ} ask (Err refused) old new

-- the same of the call's answer
pub complete_talk_told : (status : ℕ) (words : List (List ℕ)) (task : Task) (old new : Seen) (refused : Refused)
    (A B : Type 0) → IsInvocation words task
    → Caused refused.failure refused.name.now task old new → IsNoBadTask task refused old new
    → ((status ≡ status_of refused.failure) × A) ⊎ ((status ≡ 209) × B)
    → (key : List ℕ) (ask : Invocation) (program : Bundle) → IsTalk words key ask
    → FilesMake old.shelf.files ask.names (Ok program) → NoneRose old new
    → (status ≤ 199) ⊎ (status ≡ 207) ⊎ (status ≡ 210) ⊎ (status ≡ 255) ⊎ (status ≡ 209)
complete_talk_told status words task old new refused A B asks caused held told key ask program is holds none =
    let same = one_task words task (talk key ask) asks is in
    let fails = subst (λ (t : Task). Caused refused.failure refused.name.now t old new) same caused in
    by told (talk_end refused.failure refused.name.now key ask old new
    ((held ask (ap invocation_in same)).by_files (Ok program) holds) none fails.0) where
      by : ((status ≡ status_of refused.failure) × A) ⊎ ((status ≡ 209) × B)
          → (status_of refused.failure ≡ 207) ⊎ (status_of refused.failure ≡ 210) ⊎ (status_of refused.failure ≡ 255)
          ⊎ (status_of refused.failure ≡ 209)
          → (status ≤ 199) ⊎ (status ≡ 207) ⊎ (status ≡ 210) ⊎ (status ≡ 255) ⊎ (status ≡ 209)
      by (inr t) e = inr (inr (inr (inr t.0)))
      by (inl t) (inl e) = inr (inl (t.0 ∙ e))
      by (inl t) (inr (inl e)) = inr (inr (inl (t.0 ∙ e)))
      by (inl t) (inr (inr (inl e))) = inr (inr (inr (inl (t.0 ∙ e))))
      by (inl t) (inr (inr (inr e))) = inr (inr (inr (inr (t.0 ∙ e))))

-- ---- `engine`

pub returned_rose : (failed before after : ℕ) → CountsReturned failed before after → 0 < failed → Rose before after
returned_rose zero before after h some = absurd (omega (arith, some))
returned_rose (suc n) before after h some = h

-- where no count rose and the files are not told as bad, what fails is a packet, the program's end, a stop or memory
module _ (failed : Failure) (name : List ℕ) (address : Address) (key : List ℕ) (ask : Invocation) (old new : Seen)
    (good : IsGood failed) (none : NoneRose old new) where
  pub link_sound : (source sink : Change) → IsDialled address source sink old.net new.net
      → 0 < source.faults + sink.faults → ⊥
  link_sound source sink d some =
      none.returned_not (returned_rose (source.faults + sink.faults) old.net.returned new.net.returned d.returned some)

  module _ (h : EngineEnds failed name address key ask old new) where
    source_fault : (ended_by : Option SessionEnd) (rest read : List ℕ) → h.served.end ≡ serve.ReadFault
        → EndsBy h.served.end ended_by rest read h.is.source → ⊥
    source_fault ended_by rest read is ends =
        let rose : Rose h.is.source.faults_before h.is.source.faults =
        (subst (λ (e : ServeEnd). EndsBy e ended_by rest read h.is.source) is ends).2 in
        link_sound h.is.source h.is.sink h.is.dialled (omega (arith, rose))

    abbrev IsLinkCut : Type 0
    IsLinkCut = IsCut h.served h.is.program ask.bound key h.is.source h.is.sink (changed old.out new.out)

    link_cut_by : (e : ServeEnd) → h.served.end ≡ e → (cut : IsLinkCut)
        → CutBy e h.served.outcome h.is.program ask.bound cut.done (cut.done ++ cut.last) h.is.sink
        (changed old.out new.out)
    link_cut_by e is cut =
        subst (λ (e : ServeEnd). CutBy e h.served.outcome h.is.program ask.bound cut.done (cut.done ++ cut.last)
        h.is.sink (changed old.out new.out)) is cut.by

    sink_fault : h.served.end ≡ serve.WriteFault → IsLinkCut → ⊥
    sink_fault is cut =
        let rose : Rose h.is.sink.faults_before h.is.sink.faults = (link_cut_by serve.WriteFault is cut).0 in
        link_sound h.is.source h.is.sink h.is.dialled (omega (arith, rose))

    engine_by_end : (e : ServeEnd) → h.served.end ≡ e
        → ServesTo e h.served h.is.program ask.bound key h.is.source h.is.sink (changed old.out new.out)
        → judged_by failure.Network ask h.served.outcome e ≡ Err (failed, name)
        → IsTalkEnd failed name key ask old new good none failed
    engine_by_end serve.Stopped is s e = by_outcome failed name key ask old new good none h.served.outcome e
    engine_by_end serve.Detached is s e = by_outcome failed name key ask old new good none h.served.outcome e
    engine_by_end serve.LinkEnd is s e = by_outcome failed name key ask old new good none h.served.outcome e
    engine_by_end serve.ReadFault is s e = absurd (source_fault _ _ _ is s.ends)
    engine_by_end serve.WriteFault is s e = absurd (sink_fault is s)
    engine_by_end serve.OutFault is s e = absurd (none.out_not (link_cut_by serve.OutFault is s).0)
    engine_by_end (serve.BadCommandFrame offset) is s e =
        let same : failure.Packet offset ≡ failed = ap (failure_in failed name key ask old new good none) e in inl
        (sym (ap status_of same))
    engine_by_end serve.ByteLimit is s e =
        let same : failure.Packet 4294967295 ≡ failed = ap (failure_in failed name key ask old new good none) e in inl
        (sym (ap status_of same))
    engine_by_end serve.Memory is s e =
        let same : failure.Memory ≡ failed = ap (failure_in failed name key ask old new good none) e in inr
        (inr (inr (sym (ap status_of same))))

  engine_end : EngineFails failed name address key ask old new → IsTalkEnd failed name key ask old new good none failed
  engine_end (inl memory) = inr (inr (inr (ap status_of memory.0)))
  engine_end (inr (inl u)) = unserved failed name key ask old new good none u.cause u.caused u.reported.0
  engine_end (inr (inr (inl alone))) = absurd (none.net_not alone.2.undialled.faults)
  engine_end (inr (inr (inr h))) = engine_by_end h h.served.end refl h.is.serves h.reported

pub complete_engine_told : (status : ℕ) (words : List (List ℕ)) (task : Task) (old new : Seen) (refused : Refused)
    (A B : Type 0) → IsInvocation words task
    → Caused refused.failure refused.name.now task old new → IsNoBadTask task refused old new
    → ((status ≡ status_of refused.failure) × A) ⊎ ((status ≡ 209) × B)
    → (address : Address) (key : List ℕ) (ask : Invocation) (program : Bundle) → IsEngine words address key ask
    → FilesMake old.shelf.files ask.names (Ok program) → NoneRose old new
    → (status ≤ 199) ⊎ (status ≡ 207) ⊎ (status ≡ 210) ⊎ (status ≡ 255) ⊎ (status ≡ 209)
complete_engine_told status words task old new refused A B asks caused held told address key ask program is holds none =
    let same = one_task words task (engine address key ask) asks is in
    let fails = subst (λ (t : Task). Caused refused.failure refused.name.now t old new) same caused in
    by told (engine_end refused.failure refused.name.now address key ask old new
    ((held ask (ap invocation_in same)).by_files (Ok program) holds) none fails) where
      by : ((status ≡ status_of refused.failure) × A) ⊎ ((status ≡ 209) × B)
          → (status_of refused.failure ≡ 207) ⊎ (status_of refused.failure ≡ 210) ⊎ (status_of refused.failure ≡ 255)
          ⊎ (status_of refused.failure ≡ 209)
          → (status ≤ 199) ⊎ (status ≡ 207) ⊎ (status ≡ 210) ⊎ (status ≡ 255) ⊎ (status ≡ 209)
      by (inr t) e = inr (inr (inr (inr t.0)))
      by (inl t) (inl e) = inr (inl (t.0 ∙ e))
      by (inl t) (inr (inl e)) = inr (inr (inl (t.0 ∙ e)))
      by (inl t) (inr (inr (inl e))) = inr (inr (inr (inl (t.0 ∙ e))))
      by (inl t) (inr (inr (inr e))) = inr (inr (inr (inr (t.0 ∙ e))))

-- ---- the network

done_offline : (status : ℕ) (task : Task) (old new : Seen) → Does status task old new → uses_net task ≡ false
    → new.net ≡ old.net
done_offline status (run ask) old new h e = h.3
done_offline status (talk key ask) old new h e = h.1
done_offline status (tape key ask) old new h e = h.1
done_offline status (audit key ask) old new h e = h.1
done_offline status (dap ask) old new h e = h.1
done_offline status (engine address key ask) old new h e = absurd cc
done_offline status (async address key ask) old new h e = absurd cc
done_offline status (ide port script) old new h e = absurd cc
done_offline status (replay events ask) old new h e = h.3
done_offline status (soak count seed) old new h e = h.3
done_offline status (proxy service) old new h e = absurd cc
done_offline status show old new h e = h.3

caused_offline : (failed : Failure) (name : List ℕ) (task : Task) (old new : Seen) → Caused failed name task old new
    → uses_net task ≡ false → new.net ≡ old.net
caused_offline failed name (run ask) old new h e = h.3
caused_offline failed name (talk key ask) old new h e = h.1
caused_offline failed name (tape key ask) old new h e = h.1
caused_offline failed name (audit key ask) old new h e = h.1
caused_offline failed name (dap ask) old new h e = h.1
caused_offline failed name (engine address key ask) old new h e = absurd cc
caused_offline failed name (async address key ask) old new h e = absurd cc
caused_offline failed name (ide port script) old new h e = absurd cc
caused_offline failed name (replay events ask) old new h e = h.3
caused_offline failed name (soak count seed) old new h e = h.3
caused_offline failed name (proxy service) old new h e = absurd cc
caused_offline failed name show old new h e = h.3

pub asks_offline : (words : List (List ℕ)) (task other : Task) → IsInvocation words task → IsInvocation words other
    → uses_net other ≡ false → uses_net task ≡ false
asks_offline words task other p q e = ap uses_net (one_task words task other p q) ∙ e

pub offline_done : (status : ℕ) (words : List (List ℕ)) (task other : Task) (old new : Seen) → IsInvocation words task
    → Does status task old new → IsInvocation words other → uses_net other ≡ false → new.net ≡ old.net
offline_done status words task other old new p does q e =
    done_offline status task old new does (asks_offline words task other p q e)

pub offline_caused : (failed : Failure) (name : List ℕ) (words : List (List ℕ)) (task other : Task) (old new : Seen)
    → IsInvocation words task → Caused failed name task old new → IsInvocation words other
    → uses_net other ≡ false → new.net ≡ old.net
offline_caused failed name words task other old new p caused q e =
    caused_offline failed name task old new caused (asks_offline words task other p q e)

-- ---- `run`

-- where no count rose and the files are not told as bad, what fails is the program's end or memory
module _ (failed : Failure) (ask : Invocation) (old new : Seen) (good : IsGood failed) (none : NoneRose old new) where
  abbrev IsEnd : Failure → Type 0
  IsEnd f = (status_of f ≡ 255) ⊎ (status_of f ≡ 209)

  by_why : (why : RunError)
      → RunCaused why old.shelf.files old.shelf.faults new.shelf.faults ask.names ask.bound (changed old.out new.out)
      → failed ≡ failure_told ask.bound why → IsEnd failed
  by_why (end.Program why) caused told = inr (no_program failed _ _ _ ask.names good none.shelf why caused.0 told)
  by_why (end.Fatal kind file line) caused told = inl (ap status_of told)
  by_why end.Bound caused told = inl (ap status_of told)
  by_why end.OutFault caused told = absurd (none.out_not caused.1)
  by_why end.Memory caused told = inr (ap status_of told)

  by_told : (name : List ℕ)
      → RunFails failed name old.shelf.files old.shelf.faults new.shelf.faults ask (changed old.out new.out)
      → IsEnd failed
  by_told name fails =
      ⊎_elim (λ t. by_why fails.why fails.caused t.0) (λ starved. inr (ap status_of starved.0)) fails.reported

pub complete_run_told : (status : ℕ) (words : List (List ℕ)) (task : Task) (old new : Seen) (refused : Refused)
    (A B : Type 0) → IsInvocation words task
    → Caused refused.failure refused.name.now task old new → IsNoBadTask task refused old new
    → ((status ≡ status_of refused.failure) × A) ⊎ ((status ≡ 209) × B)
    → (ask : Invocation) (program : Bundle) → IsRun words ask → FilesMake old.shelf.files ask.names (Ok program)
    → NoneRose old new
    → (status ≤ 199) ⊎ (status ≡ 255) ⊎ (status ≡ 209)
complete_run_told status words task old new refused A B asks caused held told ask program is holds none =
    let same = one_task words task (run ask) asks is in
    let fails = (subst (λ (t : Task). Caused refused.failure refused.name.now t old new) same caused).0 in
    by told (by_told refused.failure ask old new ((held ask (ap invocation_in same)).by_files (Ok program) holds) none
    refused.name.now fails) where
      by : ((status ≡ status_of refused.failure) × A) ⊎ ((status ≡ 209) × B)
          → (status_of refused.failure ≡ 255) ⊎ (status_of refused.failure ≡ 209)
          → (status ≤ 199) ⊎ (status ≡ 255) ⊎ (status ≡ 209)
      by (inr t) end = inr (inr t.0)
      by (inl t) (inl e) = inr (inl (t.0 ∙ e))
      by (inl t) (inr e) = inr (inr (t.0 ∙ e))

-- those that make none are, unless the shelf or memory failed
pub refused_told : (status before after : ℕ) (failed : Failure) (A B : Type 0)
    → ((status ≡ status_of failed) × A) ⊎ ((status ≡ 209) × B)
    → IsBadSource failed ⊎ Rose before after → (status ≡ 201) ⊎ (status ≡ 209) ⊎ Rose before after
refused_told status before after failed A B (inr told) h = inr (inl told.0)
refused_told status before after failed A B (inl told) (inr rose) = inr (inr rose)
refused_told status before after failed A B (inl told) (inl (inl e)) = inl (told.0 ∙ e)
refused_told status before after failed A B (inl told) (inl (inr e)) = inr (inl (told.0 ∙ ap status_of e))

-- it is asked for this program
pub asks_program : (words : List (List ℕ)) (task other : Task) (ask : Invocation) → IsInvocation words task
    → IsInvocation words other
    → invocation_in other ≡ Some ask → invocation_in task ≡ Some ask
asks_program words task other ask asks is program = ap invocation_in (one_task words task other asks is) ∙ program

-- ---- `show`

-- where no count rose, what fails is the end of the input, a packet or memory
show_fails : (failed : Failure) (input out : Change) → (Rose input.faults_before input.faults → ⊥)
    → (Rose out.faults_before out.faults → ⊥)
    → ShowCaused failed input out → (status_of failed ≡ 206) ⊎ (status_of failed ≡ 207) ⊎ (status_of failed ≡ 209)
show_fails failure.PeerEnd input out i o h = inl refl
show_fails (failure.Packet offset) input out i o h = inr (inl refl)
show_fails failure.Network input out i o h = absurd (i h.ends.2)
show_fails failure.Output input out i o h = absurd (o h.0)
show_fails failure.Memory input out i o h = inr (inr refl)
show_fails failure.TooLong input out i o h = absurd h
show_fails (failure.Source reason number) input out i o h = absurd h
show_fails failure.Stopped input out i o h = absurd h
show_fails (failure.Lies line) input out i o h = absurd h
show_fails failure.ShelfFailed input out i o h = absurd h
show_fails (failure.Fatal kind line) input out i o h = absurd h
show_fails (failure.Bound steps) input out i o h = absurd h
show_fails failure.NoFile input out i o h = absurd h
show_fails (failure.Script line) input out i o h = absurd h
show_fails (failure.Differs line wanted found) input out i o h = absurd h

pub complete_show_fails : (status : ℕ) (words : List (List ℕ)) (old new : Seen) → Fails status words old new
    → IsInvocation words show → NoneRose old new → (status ≡ 0) ⊎ (status ≡ 206) ⊎ (status ≡ 207) ⊎ (status ≡ 209)
complete_show_fails status words old new f asks none =
    let caused = caused_of status words old new f show asks in
    by (show_fails f.failure _ _ none.input_not none.out_not caused.1) where
      by : (status_of f.failure ≡ 206) ⊎ (status_of f.failure ≡ 207) ⊎ (status_of f.failure ≡ 209)
          → (status ≡ 0) ⊎ (status ≡ 206) ⊎ (status ≡ 207) ⊎ (status ≡ 209)
      by (inl e) = inr (inl (f.is_status ∙ e))
      by (inr (inl e)) = inr (inr (inl (f.is_status ∙ e)))
      by (inr (inr e)) = inr (inr (inr (f.is_status ∙ e)))

-- what is asked for does not use the shelf
pub asks_unshelved : (words : List (List ℕ)) (task other : Task) → IsInvocation words task → IsInvocation words other
    → uses_shelf other ≡ false → uses_shelf task ≡ false
asks_unshelved words task other p q e = ap uses_shelf (one_task words task other p q) ∙ e

-- nor starts threads
pub asks_unspawned : (words : List (List ℕ)) (task other : Task) → IsInvocation words task → IsInvocation words other
    → uses_spawner other ≡ false → uses_spawner task ≡ false
asks_unspawned words task other p q e = ap uses_spawner (one_task words task other p q) ∙ e

-- what was shown well has the status 0
pub shows_well : (status : ℕ) (words : List (List ℕ)) (task : Task) (old new : Seen) → IsInvocation words task
    → Does status task old new → IsInvocation words show → status ≡ 0
shows_well status words task old new asks does is =
    (subst (λ (t : Task). Does status t old new) (one_task words task show asks is) does).0

-- what was fetched for the task that is asked for
pub asks_fetched : (words : List (List ℕ)) (task other : Task) (before after : RequestedNames) → IsInvocation words task
    → IsFetchedFor task before after → IsInvocation words other → IsFetchedFor other before after
asks_fetched words task other before after asks is asked =
    subst (λ (t : Task). IsFetchedFor t before after) (one_task words task other asks asked) is

pub none_fetched : (task : Task) (told : RequestedNames) → IsFetchedFor task told told
none_fetched (run ask) told = nothing_fetched (Some ask) told
none_fetched (talk key ask) told = nothing_fetched (Some ask) told
none_fetched (tape key ask) told = nothing_fetched (Some ask) told
none_fetched (audit key ask) told = nothing_fetched (Some ask) told
none_fetched (dap ask) told = nothing_fetched (Some ask) told
none_fetched (engine address key ask) told = nothing_fetched (Some ask) told
none_fetched (async address key ask) told = nothing_fetched (Some ask) told
none_fetched (ide port script) told = (0, grown_by_none told)
none_fetched (replay events ask) told = (0, grown_by_none told)
none_fetched (soak count seed) told = refl
none_fetched (proxy service) told = refl
none_fetched show told = refl

-- ---- `soak`

-- where no count rose, what fails is memory
pub complete_soak_told : (status : ℕ) (words : List (List ℕ)) (task : Task) (old new : Seen) (refused : Refused)
    (A B : Type 0) → IsInvocation words task
    → Caused refused.failure refused.name.now task old new
    → ((status ≡ status_of refused.failure) × A) ⊎ ((status ≡ 209) × B)
    → (count seed : ℕ) → IsSoak words count seed → NoneRose old new → (status ≡ 0) ⊎ (status ≡ 209)
complete_soak_told status words task old new refused A B asks caused told count seed is none =
    by told (subst (λ (t : Task). Caused refused.failure refused.name.now t old new)
    (one_task words task (soak count seed) asks is) caused).0 where
      by : ((status ≡ status_of refused.failure) × A) ⊎ ((status ≡ 209) × B)
          → SoakFails refused.failure refused.name.now count seed (changed old.out new.out)
          → (status ≡ 0) ⊎ (status ≡ 209)
      by (inr t) fails = inr t.0
      by (inl t) (inl memory) = inr (t.0 ∙ ap status_of memory.0)
      by (inl t) (inr h) = absurd (none.out_not h.2.fault)

-- what was counted well has the status 0
pub soaks_well : (status : ℕ) (words : List (List ℕ)) (task : Task) (old new : Seen) → IsInvocation words task
    → Does status task old new → (count seed : ℕ) → IsSoak words count seed → status ≡ 0
soaks_well status words task old new asks does count seed is =
    (subst (λ (t : Task). Does status t old new) (one_task words task (soak count seed) asks is) does).0.is_status

-- ---- `proxy`

-- where no count rose, what fails is memory
pub complete_proxy_told : (status : ℕ) (words : List (List ℕ)) (task : Task) (old new : Seen) (refused : Refused)
    (A B : Type 0) → IsInvocation words task
    → Caused refused.failure refused.name.now task old new
    → ((status ≡ status_of refused.failure) × A) ⊎ ((status ≡ 209) × B)
    → (service : Service) → IsProxy words service → NoneRose old new → (status ≡ 0) ⊎ (status ≡ 209)
complete_proxy_told status words task old new refused A B asks caused told service is none =
    by told (subst (λ (t : Task). Caused refused.failure refused.name.now t old new)
    (one_task words task (proxy service) asks is) caused).0.1 where
      unfailed : HasFailed old.net new.net (faults old.spawner.faults new.spawner.faults) → ⊥
      unfailed (inl net) = none.net_not net
      unfailed (inr (inl returned)) = none.returned_not returned
      unfailed (inr (inr spawner)) = none.spawner_not spawner

      by : ((status ≡ status_of refused.failure) × A) ⊎ ((status ≡ 209) × B)
          → ProxyCause refused.failure service (changed old.out new.out) old.net new.net
          (faults old.spawner.faults new.spawner.faults) → (status ≡ 0) ⊎ (status ≡ 209)
      by (inr t) fails = inr t.0
      by (inl t) (inl memory) = inr (t.0 ∙ ap status_of memory.0)
      by (inl t) (inr (inl network)) = absurd (unfailed network.1.failed)
      by (inl t) (inr (inr output)) = absurd (none.out_not output.1.fault)

-- what was served well has the status 0
pub proxies_well : (status : ℕ) (words : List (List ℕ)) (task : Task) (old new : Seen) → IsInvocation words task
    → Does status task old new → (service : Service) → IsProxy words service → status ≡ 0
proxies_well status words task old new asks does service is =
    (subst (λ (t : Task). Does status t old new) (one_task words task (proxy service) asks is) does).0.is_status
