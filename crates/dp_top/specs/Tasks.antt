-- The answers of the top call: what each task does, and why it fails.
use Rattle.std.specs.Prelude.{◌≡◌, ℕ, ◌≤◌, List, [], ◌∷◌, Ok, Err, codes}
use Rattle.dp_outside.specs.Changes.{Change, IsUntouched}
use Rattle.dp_show.specs.declared.errors.ShowError.{ShowError}
use Rattle.dp_show.specs.declared.errors.ShowError.TheVariants as ends
use Rattle.dp_show.specs.Shows.{Shows, Ends}
use Rattle.dp_top.specs.declared.failures.Failure.{Failure}
use Rattle.dp_top.specs.declared.failures.Failure.TheVariants.{TooLong, Source, ShelfFailed, NoFile, Fatal, Bound, Output, Script, Differs, PeerEnd, Packet, Network, Stopped, Lies, Memory}
use Rattle.dp_words.specs.Words.{Task, run, talk, tape, audit, dap, engine, async, ide, replay, soak, proxy, show, IsInvocation, invocation_in}
use Rattle.dp_crews.specs.Relays.{faults}
use Rattle.dp_top.specs.Async.{AsyncFails, Listens}
use Rattle.dp_top.specs.Dap.{Daps, DapFails}
use Rattle.dp_top.specs.Engine.{Engages, EngineFails}
use Rattle.dp_top.specs.Ide.{Plays, IdeFails}
use Rattle.dp_top.specs.Proxy.{Proxies, ProxyFails}
use Rattle.dp_top.specs.Records.{Audits, AuditFails, Tapes, TapeFails}
use Rattle.dp_top.specs.Replay.{DoesReplay, ReplayFails}
use Rattle.dp_top.specs.Failures.{status_of, line_of, Says}
use Rattle.dp_program.specs.Runs.{Runs}
use Rattle.dp_program.specs.Programs.{RequestedNames}
use Rattle.dp_top.specs.Runs.{AreFetched, IsFetched, RunFails}
use Rattle.dp_top.specs.Seen.{Seen, Stream, changed}
use Rattle.dp_top.specs.Soak.{Soaks, SoakFails}
use Rattle.dp_top.specs.Statuses.{memory_status}
use Rattle.dp_top.specs.Talk.{Talks, TalkFails}

-- ---- `show`

-- the failure that an end of `show` is
abbrev pub failure_of : ShowError → Failure
failure_of ends.PeerEnd = PeerEnd
failure_of (ends.BadPacket offset) = Packet offset
failure_of ends.ReadFault = Network
failure_of ends.OutFault = Output
failure_of ends.Memory = Memory

-- why it failed
abbrev pub ShowCaused : Failure → Change → Change → Type 0
ShowCaused PeerEnd input out = Ends (Err ends.PeerEnd) input out
ShowCaused (Packet offset) input out = Ends (Err (ends.BadPacket offset)) input out
ShowCaused Network input out = Ends (Err ends.ReadFault) input out
ShowCaused Output input out = Ends (Err ends.OutFault) input out
ShowCaused Memory input out = Ends (Err ends.Memory) input out
ShowCaused TooLong input out = ⊥
ShowCaused (Source reason number) input out = ⊥
ShowCaused Stopped input out = ⊥
ShowCaused (Lies line) input out = ⊥
ShowCaused ShelfFailed input out = ⊥
ShowCaused (Fatal kind line) input out = ⊥
ShowCaused (Bound steps) input out = ⊥
ShowCaused NoFile input out = ⊥
ShowCaused (Script line) input out = ⊥
ShowCaused (Differs line wanted found) input out = ⊥

-- ---- each task

abbrev pub IsStill : Stream → Stream → Type 0
IsStill old new = IsUntouched (changed old new)

-- the network was not used
abbrev pub IsOffline : Seen → Seen → Type 0
IsOffline old new = new.net ≡ old.net

-- it went well, with this status
abbrev pub Does : ℕ → Task → Seen → Seen → Type 0
Does status (run ask) old new =
    Runs status old.shelf.files ask.names ask.bound (changed old.out new.out)
    × IsStill old.input new.input × IsStill old.err new.err × IsOffline old new
Does status (talk key ask) old new = Talks status key ask old new × IsOffline old new
Does status (tape key ask) old new = Tapes status key ask old new × IsOffline old new
Does status (audit key ask) old new = Audits status key ask old new × IsOffline old new
Does status (dap ask) old new = Daps status ask old new × IsOffline old new
Does status (engine address key ask) old new = Engages status address key ask old new
Does status (async address key ask) old new = Listens status address key ask old new
Does status (ide port script) old new = Plays status port script old new
Does status (replay events ask) old new =
    DoesReplay status events ask old.shelf.files (changed old.out new.out)
    × IsStill old.input new.input × IsStill old.err new.err × IsOffline old new
Does status (soak count seed) old new =
    Soaks status count seed (changed old.out new.out)
    × IsStill old.input new.input × IsStill old.err new.err × IsOffline old new
Does status (proxy service) old new =
    Proxies status service (changed old.out new.out) old.net new.net
    (faults old.spawner.faults new.spawner.faults)
    × IsStill old.input new.input × IsStill old.err new.err
Does status show old new =
    (status ≡ 0) × Shows (Ok tt) (changed old.input new.input) (changed old.out new.out)
    × IsStill old.err new.err × IsOffline old new

-- why it failed; the name is that of the file that the failure is of, else nothing
abbrev pub Caused : Failure → List ℕ → Task → Seen → Seen → Type 0
Caused failure name (run ask) old new =
    RunFails failure name old.shelf.files old.shelf.faults new.shelf.faults ask
    (changed old.out new.out)
    × IsStill old.input new.input × IsStill old.err new.err × IsOffline old new
Caused failure name (talk key ask) old new =
    TalkFails failure name key ask old new × IsOffline old new
Caused failure name (tape key ask) old new =
    TapeFails failure name key ask old new × IsOffline old new
Caused failure name (audit key ask) old new =
    AuditFails failure name key ask old new × IsOffline old new
Caused failure name (dap ask) old new = DapFails failure name ask old new × IsOffline old new
Caused failure name (engine address key ask) old new =
    EngineFails failure name address key ask old new
Caused failure name (async address key ask) old new =
    AsyncFails failure name address key ask old new
Caused failure name (ide port script) old new = IdeFails failure name port script old new
Caused failure name (replay events ask) old new =
    ReplayFails failure name events ask old.shelf.files old.shelf.faults new.shelf.faults
    (changed old.out new.out)
    × IsStill old.input new.input × IsStill old.err new.err × IsOffline old new
Caused failure name (soak count seed) old new =
    SoakFails failure name count seed (changed old.out new.out)
    × IsStill old.input new.input × IsStill old.err new.err × IsOffline old new
Caused failure name (proxy service) old new =
    ProxyFails failure name service (changed old.out new.out) old.net new.net
    (faults old.spawner.faults new.spawner.faults)
    × IsStill old.input new.input × IsStill old.err new.err
Caused failure name show old new =
    (name ≡ []) × ShowCaused failure (changed old.input new.input) (changed old.out new.out)
    × IsStill old.err new.err × IsOffline old new

-- only files that a task names are fetched, each once, in their order
abbrev pub IsFetchedFor : Task → RequestedNames → RequestedNames → Type 0
IsFetchedFor (ide port script) before after = AreFetched (script ∷ []) before after
IsFetchedFor (replay events ask) before after = AreFetched (events ∷ ask.names) before after
IsFetchedFor task before after = IsFetched (invocation_in task) before after

-- ---- the answers

-- these objects before a line was put on the error output, which was this then
abbrev pub before_line : Seen → Stream → Seen
before_line new err =
    record {
      shelf = new.shelf;
      input = new.input;
      out = new.out;
      err = err;
      net = new.net;
      spawner = new.spawner;
    }

-- A status is that of a failure: it has its cause, and then its line is said.
pub record Fails (status : ℕ) (words : List (List ℕ)) (old new : Seen) : Type 0 where
  pub task : Task
  pub asks : IsInvocation words task
  pub failure : Failure
  pub name : List ℕ
  pub is_status : status ≡ status_of failure
  pub err : Stream
  pub caused : Caused failure name task old (before_line new err)
  pub later : err.faults ≤ new.err.faults
  pub says : Says (changed err new.err) (line_of failure name)

-- The words are in their grammar, and what they ask for went well, with this status.
pub record IsDone (status : ℕ) (words : List (List ℕ)) (old new : Seen) : Type 0 where
  pub task : Task
  pub asks : IsInvocation words task
  pub does : Does status task old new

-- Memory ran out as the words were read: that is said, and nothing else was done.
pub record IsUnread (status : ℕ) (old new : Seen) : Type 0 where
  pub is_status : status ≡ memory_status
  pub shelf : new.shelf ≡ old.shelf
  pub input : IsStill old.input new.input
  pub out : IsStill old.out new.out
  pub net : IsOffline old new
  pub spawner : new.spawner ≡ old.spawner
  pub says : Says (changed old.err new.err) (codes "out of memory\n")
