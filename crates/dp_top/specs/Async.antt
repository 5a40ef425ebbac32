-- The command `async`: what it does, and why it fails.
use Rattle.std.specs.Prelude.{◌≡◌, ◌⊎◌, ℕ, List, [], Option, Ok, Err}
use Rattle.dp_outside.specs.Causes.{Rose}
use Rattle.dp_outside.specs.Changes.{Change}
use Rattle.dp_tree.specs.declared.bundle.Bundle.{Bundle}
use Rattle.dp_engine.specs.declared.service.ServeEnd.{ServeEnd}
use Rattle.dp_engine.specs.declared.service.ServeEnd.TheVariants.{ByteLimit}
use Rattle.dp_state.specs.declared.moments.Outcome.{Outcome}
use Rattle.dp_async.specs.declared.service.AsyncServed.{AsyncServed}
use Rattle.dp_async.specs.Beside.{Attends, Flow}
use Rattle.dp_async.specs.Heard.{byte_limit}
use Rattle.dp_program.specs.Programs.{NamesMake}
use Rattle.dp_top.specs.declared.failures.Failure.{Failure}
use Rattle.dp_top.specs.declared.failures.Failure.TheVariants as failure
use Rattle.dp_words.specs.Words.{Address, Invocation}
use Rattle.dp_top.specs.Engine.{FailsUnlinked, IsApart, IsIdle, IsUnlinked, IsUnserved, IsUnused}
use Rattle.dp_top.specs.Links.{IsDialled}
use Rattle.dp_top.specs.Seen.{Seen, changed}
use Rattle.dp_top.specs.Talk.{EndReport, judged_by, unnamed}

-- How a session that listened ended: a fault of the link is one of the network, and its limit of
-- bytes is a smaller one.
abbrev pub judged_end : Invocation → Option Outcome → ServeEnd → EndReport
judged_end ask outcome ByteLimit = unnamed (failure.Packet byte_limit)
judged_end ask outcome end = judged_by failure.Network ask outcome end

abbrev pub judged : Invocation → AsyncServed → EndReport
judged ask served = judged_end ask served.served.outcome served.served.end

-- what became of the source of a link
abbrev pub flow_change : Flow → Flow → Change
flow_change before now = record {
  told_before = before.left;
  told = now.left;
  faults_before = before.faults;
  faults = now.faults;
}

-- The session of this key over the program was served so, over a link that was dialled, beside a
-- thread that read it; the program's own output goes to `out`.
pub record IsServed (served : AsyncServed) (address : Address) (key : List ℕ) (ask : Invocation)
    (old new : Seen) : Type 0 where
  pub program : Bundle
  pub made : NamesMake old.shelf.files ask.names (Ok program)
  pub before : Flow
  pub now : Flow
  pub sink : Change
  pub dialled : IsDialled address (flow_change before now) sink old.net new.net
  pub attends : Attends served program ask.bound key before now sink (changed old.out new.out)
  pub apart : IsApart old new

-- it went well, with this status
pub record Listens (status : ℕ) (address : Address) (key : List ℕ) (ask : Invocation)
    (old new : Seen) : Type 0 where
  pub served : AsyncServed
  pub is : IsServed served address key ask old new
  pub reported : judged ask served ≡ Ok status

-- the session was served, and its end is this failure
pub record EndsSo (why : Failure) (name : List ℕ) (address : Address) (key : List ℕ)
    (ask : Invocation) (old new : Seen) : Type 0 where
  pub served : AsyncServed
  pub is : IsServed served address key ask old new
  pub reported : judged ask served ≡ Err (why, name)

-- no thread was had for the link, which came back unused: that is reported as the network's failure
pub record HasNoThread (why : Failure) (name : List ℕ) (address : Address) (ask : Invocation)
    (old new : Seen) : Type 0 where
  pub program : Bundle
  pub made : NamesMake old.shelf.files ask.names (Ok program)
  pub is_why : why ≡ failure.Network
  pub is_name : name ≡ []
  pub rose : Rose old.spawner.faults new.spawner.faults
  pub unused : IsUnused address old new

-- memory of the thread that read ran out: nothing is known of what was sent, but that the link came
-- back
pub record IsUnread (address : Address) (old new : Seen) : Type 0 where
  pub source : Change
  pub sink : Change
  pub dialled : IsDialled address source sink old.net new.net
  pub apart : IsApart old new

-- memory ran out: before a link was dialled, before the session began, for the line on a failed
-- dial or thread, of the thread that read, or once the session was served
abbrev pub IsStarved : Address → List ℕ → Invocation → Seen → Seen → Type 0
IsStarved address key ask old new =
    IsIdle old new ⊎ IsUnused address old new ⊎ IsUnlinked address ask old new
    ⊎ ((served : AsyncServed) × IsServed served address key ask old new)
    ⊎ IsUnread address old new

-- why it failed
abbrev pub AsyncFails : Failure → List ℕ → Address → List ℕ → Invocation → Seen → Seen → Type 0
AsyncFails why name address key ask old new =
    ((why ≡ failure.Memory) × IsStarved address key ask old new)
    ⊎ IsUnserved why name ask old new ⊎ FailsUnlinked why name address ask old new
    ⊎ HasNoThread why name address ask old new
    ⊎ EndsSo why name address key ask old new
