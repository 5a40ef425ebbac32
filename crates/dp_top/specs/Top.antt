-- What an answer of the top call says: the words and the objects before and after it decide it.
use Rattle.std.specs.Prelude.{◌≡◌, ◌⊎◌, ◌<◌, ◌≤◌, ℕ, false, List, IsSome, Some, Result, Ok, Err, codes}
use Rattle.dp_outside.specs.Causes.{Rose}
use Rattle.dp_bundle.specs.declared.errors.BundleError.{BundleError}
use Rattle.dp_ide.specs.declared.instruction.Instruction.{Instruction}
use Rattle.dp_events.specs.declared.event.Event.{Event}
use Rattle.dp_program.specs.Programs.{FilesMake}
use Rattle.dp_tree.specs.declared.bundle.Bundle.{Bundle}
use Rattle.dp_words.specs.Words.{Address, Invocation, IsAsync, IsAudit, IsDap, IsEngine, IsIde, IsInvocation, IsProxy, IsReplay, Service}
use Rattle.dp_words.specs.Words.{IsRun, IsSoak, IsTalk, IsTape, Task, show, invocation_in, uses_net, uses_shelf, uses_spawner}
use Rattle.dp_words.specs.Plain.{are_plain}
use Rattle.dp_top.specs.Failures.{Says}
use Rattle.dp_top.specs.Ide.{IsNoScript, IsScriptFile}
use Rattle.dp_top.specs.Replay.{IsListFile, IsNoList}
use Rattle.dp_top.specs.Seen.{NoneRose, Seen, changed}
use Rattle.dp_state.specs.Statuses.{killed_status, unfinished_status}
use Rattle.dp_top.specs.Statuses.{exit_limit, usage_status, source_status, script_status}
use Rattle.dp_top.specs.Statuses.{differs_status, peer_end_status, packet_status, memory_status}
use Rattle.dp_top.specs.Statuses.{lies_status}
use Rattle.dp_top.specs.Tasks.{Fails, IsDone, IsFetchedFor, IsOffline, IsStill, IsUnread}

-- The call was made with these words and answered this status; the objects told `old` before it and
-- tell `new` after it.
pub record Answers (status : ℕ) (words : List (List ℕ)) (old new : Seen) : Type 0 where
  -- ---- the words

  -- words that ask for something are not refused
  pub usage : status ≡ usage_status → (task : Task) → IsInvocation words task → ⊥
  -- words that ask for nothing are, unless memory ran out as they were read
  pub usage_only : ((task : Task) → IsInvocation words task → ⊥)
      → (status ≡ usage_status) ⊎ (status ≡ memory_status)
  -- an empty word, or one that begins with `-` where no `--bound` stands, takes no memory
  pub usage_plain : are_plain words ≡ false → status ≡ usage_status
  -- a refusal is said, and nothing else is done
  pub usage_told : status ≡ usage_status → Says (changed old.err new.err) (codes "usage\n")
  pub usage_input : status ≡ usage_status → IsStill old.input new.input
  pub usage_out : status ≡ usage_status → IsStill old.out new.out
  pub usage_shelf : status ≡ usage_status → new.shelf ≡ old.shelf
  pub usage_net : status ≡ usage_status → IsOffline old new
  pub usage_spawner : status ≡ usage_status → new.spawner ≡ old.spawner
  -- ---- what was done, and why it failed

  -- what the words ask for went well, with the status that the program or the command ended with
  pub done : status ≤ exit_limit → IsDone status words old new
  -- it failed, and this has its cause; or memory ran out as the words were read
  pub fails : usage_status < status → Fails status words old new ⊎ IsUnread status old new
  -- ---- what comes where nothing outside fails

  -- Where the shelf tells the files, they make a program, and no count rose, it is run to its end,
  -- and all that it wrote is put.
  pub complete_run : (ask : Invocation) (program : Bundle) → IsRun words ask
      → FilesMake old.shelf.files ask.names (Ok program) → NoneRose old new
      → (status ≤ exit_limit) ⊎ (status ≡ unfinished_status) ⊎ (status ≡ memory_status)
  -- Likewise the session is served whole, or what is no command is reported.
  pub complete_talk : (key : List ℕ) (ask : Invocation) (program : Bundle) → IsTalk words key ask
      → FilesMake old.shelf.files ask.names (Ok program) → NoneRose old new
      → (status ≤ exit_limit) ⊎ (status ≡ packet_status) ⊎ (status ≡ killed_status)
      ⊎ (status ≡ unfinished_status) ⊎ (status ≡ memory_status)
  -- Likewise where its record is written.
  pub complete_tape : (key : List ℕ) (ask : Invocation) (program : Bundle) → IsTape words key ask
      → FilesMake old.shelf.files ask.names (Ok program) → NoneRose old new
      → (status ≤ exit_limit) ⊎ (status ≡ packet_status) ⊎ (status ≡ killed_status)
      ⊎ (status ≡ unfinished_status) ⊎ (status ≡ memory_status)
  -- Likewise a record is honest, or it is told where it differs or is none.
  pub complete_audit : (key : List ℕ) (ask : Invocation) (program : Bundle) → IsAudit words key ask
      → FilesMake old.shelf.files ask.names (Ok program) → NoneRose old new
      → (status ≡ 0) ⊎ (status ≡ lies_status) ⊎ (status ≡ script_status)
      ⊎ (status ≡ memory_status)
  -- Likewise over the gateway, where a body that is no request is reported too.
  pub complete_dap : (ask : Invocation) (program : Bundle) → IsDap words ask
      → FilesMake old.shelf.files ask.names (Ok program) → NoneRose old new
      → (status ≤ exit_limit) ⊎ (status ≡ packet_status) ⊎ (status ≡ killed_status)
      ⊎ (status ≡ unfinished_status) ⊎ (status ≡ memory_status)
  -- Likewise over a link that was dialled.
  pub complete_engine : (address : Address) (key : List ℕ) (ask : Invocation) (program : Bundle)
      → IsEngine words address key ask
      → FilesMake old.shelf.files ask.names (Ok program) → NoneRose old new
      → (status ≤ exit_limit) ⊎ (status ≡ packet_status) ⊎ (status ≡ killed_status)
      ⊎ (status ≡ unfinished_status) ⊎ (status ≡ memory_status)
  -- Likewise of a session that listens.
  pub complete_async : (address : Address) (key : List ℕ) (ask : Invocation) (program : Bundle)
      → IsAsync words address key ask
      → FilesMake old.shelf.files ask.names (Ok program) → NoneRose old new
      → (status ≤ exit_limit) ⊎ (status ≡ packet_status) ⊎ (status ≡ killed_status)
      ⊎ (status ≡ unfinished_status) ⊎ (status ≡ memory_status)
  -- Where they make none, that is reported, unless the shelf fails first.
  pub refused : (task : Task) (ask : Invocation) (why : BundleError) → IsInvocation words task
      → invocation_in task ≡ Some ask → FilesMake old.shelf.files ask.names (Err why)
      → (status ≡ source_status) ⊎ (status ≡ memory_status)
      ⊎ Rose old.shelf.faults new.shelf.faults
  -- Where no count rose, every packet is shown, or the input ended inside one, or what is no packet
  -- is reported.
  pub complete_show : IsInvocation words show → NoneRose old new
      → (status ≡ 0) ⊎ (status ≡ peer_end_status) ⊎ (status ≡ packet_status)
      ⊎ (status ≡ memory_status)
  -- A file that is no script is reported at its first line that is none, or at line 0 where it is
  -- too long, unless the shelf fails.
  pub script_refused : (port line : ℕ) (script : List ℕ) → IsIde words port script
      → IsSome old.shelf.files → IsNoScript old.shelf.files script line
      → (status ≡ script_status) ⊎ (status ≡ memory_status)
      ⊎ Rose old.shelf.faults new.shelf.faults
  -- A script is not.
  pub script_held : (port : ℕ) (script : List ℕ) (instructions : List Instruction)
      → IsIde words port script → IsSome old.shelf.files
      → IsScriptFile old.shelf.files script instructions → status ≡ script_status → ⊥
  -- Where no count rose either, it is played to its end, or what differs, the link's end or what is
  -- no packet is reported.
  pub complete_ide : (port : ℕ) (script : List ℕ) (instructions : List Instruction)
      → IsIde words port script → IsSome old.shelf.files
      → IsScriptFile old.shelf.files script instructions → NoneRose old new
      → (status ≡ 0) ⊎ (status ≡ differs_status) ⊎ (status ≡ peer_end_status)
      ⊎ (status ≡ packet_status) ⊎ (status ≡ memory_status)
  -- A file that is no list of events is reported at its first line that adds nothing, or at line 0
  -- where it is too long, unless the shelf fails or lacks a file of the program.
  pub list_refused : (events : List ℕ) (ask : Invocation) (line : ℕ)
      (made : Result Bundle BundleError) → IsReplay words events ask
      → IsNoList old.shelf.files events line → FilesMake old.shelf.files ask.names made
      → (status ≡ script_status) ⊎ (status ≡ memory_status)
      ⊎ Rose old.shelf.faults new.shelf.faults
  -- A list is not.
  pub list_held : (events : List ℕ) (ask : Invocation) (list : List Event)
      → IsReplay words events ask → IsSome old.shelf.files
      → IsListFile old.shelf.files events list → status ≡ script_status → ⊥
  -- Where it is one, files that make no program are reported, unless the shelf fails first.
  pub replay_refused : (events : List ℕ) (ask : Invocation) (list : List Event) (why : BundleError)
      → IsReplay words events ask → IsListFile old.shelf.files events list
      → FilesMake old.shelf.files ask.names (Err why)
      → (status ≡ source_status) ⊎ (status ≡ memory_status)
      ⊎ Rose old.shelf.faults new.shelf.faults
  -- Where they make one, and no count rose, the whole transcript is put.
  pub complete_replay : (events : List ℕ) (ask : Invocation) (list : List Event) (program : Bundle)
      → IsReplay words events ask → IsListFile old.shelf.files events list
      → FilesMake old.shelf.files ask.names (Ok program) → NoneRose old new
      → (status ≡ 0) ⊎ (status ≡ memory_status)
  -- Where no count rose, the line of the list that is drawn is put.
  pub complete_soak : (count seed : ℕ) → IsSoak words count seed → NoneRose old new
      → (status ≡ 0) ⊎ (status ≡ memory_status)
  -- Where no count rose, so many were served, and the line of the numbers is put.
  pub complete_proxy : (service : Service) → IsProxy words service → NoneRose old new
      → (status ≡ 0) ⊎ (status ≡ memory_status)
  -- ---- the objects

  -- The shelf is used by neither `soak`, `proxy` nor `show`.
  pub unshelved : (task : Task) → IsInvocation words task → uses_shelf task ≡ false
      → new.shelf ≡ old.shelf
  -- Only files that the words name are fetched, each once, in their order.
  pub fetched : (task : Task) → IsInvocation words task
      → IsFetchedFor task old.shelf.fetched new.shelf.fetched
  pub files : new.shelf.files ≡ old.shelf.files
  -- The network is used by `engine`, `async`, `ide` and `proxy` alone.
  pub offline : (task : Task) → IsInvocation words task → uses_net task ≡ false → IsOffline old new
  -- Threads are started by `async` and `proxy` alone.
  pub unspawned : (task : Task) → IsInvocation words task → uses_spawner task ≡ false
      → new.spawner ≡ old.spawner
  -- No count of faults falls.
  pub shelf_later : old.shelf.faults ≤ new.shelf.faults
  pub input_later : old.input.faults ≤ new.input.faults
  pub out_later : old.out.faults ≤ new.out.faults
  pub err_later : old.err.faults ≤ new.err.faults
  pub net_later : old.net.faults ≤ new.net.faults
  pub returned_later : old.net.returned ≤ new.net.returned
  pub spawner_later : old.spawner.faults ≤ new.spawner.faults
