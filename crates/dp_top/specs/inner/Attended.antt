-- What the code tells of a session that listens, over a program and a link that is dialled.
use Rattle.std.specs.Prelude.{◌≡◌, ◌⊎◌, ℕ, List, [], Result, Ok, Err}
use Rattle.dp_outside.specs.Causes.{Rose}
use Rattle.dp_outside.specs.Changes.{Change}
use Rattle.dp_async.specs.declared.errors.AsyncError.{AsyncError}
use Rattle.dp_async.specs.declared.errors.AsyncError.TheVariants.{NoThread, Memory}
use Rattle.dp_async.specs.declared.service.AsyncServed.{AsyncServed}
use Rattle.dp_async.specs.Beside.{Attends, Flow}
use Rattle.dp_tree.specs.declared.bundle.Bundle.{Bundle}
use Rattle.dp_top.specs.declared.failures.Failure.{Failure}
use Rattle.dp_top.specs.declared.failures.Failure.TheVariants as failure
use Rattle.dp_top.specs.declared.failures.Refused.{Refused}
use Rattle.dp_words.specs.Words.{Address, Invocation}
use Rattle.dp_top.specs.Async.{flow_change, judged}
use Rattle.dp_top.specs.Links.{IsDialled}
use Rattle.dp_top.specs.Seen.{Net}
use Rattle.dp_top.specs.Talk.{EndReport, unnamed}
use Rattle.dp_top.specs.inner.Dialled.{CameBack, NoLink}
use Rattle.dp_top.specs.inner.Sessions.{reported_in}

-- why there was none: no thread is a failure of the network
abbrev pub failure_of : AsyncError → Failure
failure_of NoThread = failure.Network
failure_of Memory = failure.Memory

-- what is reported of a session that was served, or that there was none
abbrev pub IsReported : Invocation → Result AsyncServed AsyncError → Result ℕ Refused → Type 0
IsReported ask (Ok served) result = reported_in result ≡ judged ask served
IsReported ask (Err error) result = reported_in result ≡ unnamed (failure_of error)

-- a session over this program and a link to this address was served, and this is reported of it
pub record IsAttended (report : EndReport) (program : Bundle) (address : Address) (key : List ℕ)
    (ask : Invocation) (out : Change) (old new : Net) : Type 0 where
  pub served : AsyncServed
  pub before : Flow
  pub now : Flow
  pub sink : Change
  pub dialled : IsDialled address (flow_change before now) sink old new
  pub attends : Attends served program ask.bound key before now sink out
  pub reported : judged ask served ≡ report

abbrev pub AttendedSo : ℕ → Bundle → Address → List ℕ → Invocation → Change → Net → Net → Type 0
AttendedSo status program address key ask out old new =
    IsAttended (Ok status) program address key ask out old new

-- memory of the thread that read ran out
pub record IsUnheard (address : Address) (old new : Net) : Type 0 where
  pub source : Change
  pub sink : Change
  pub dialled : IsDialled address source sink old new

-- no thread was had
pub record NoReader (why : Failure) (name : List ℕ) (address : Address) (out : Change)
    (old new : Net) (before now : ℕ) : Type 0 where
  pub is_why : why ≡ failure.Network
  pub is_name : name ≡ []
  pub rose : Rose before now
  pub came_back : CameBack address out old new

-- one failed so
abbrev pub UnattendedSo : Failure → List ℕ → Bundle → Address → List ℕ → Invocation → Change → Net
    → Net → ℕ → ℕ → Type 0
UnattendedSo why name program address key ask out old new before now =
    ((why ≡ failure.Memory) × (CameBack address out old new ⊎ IsUnheard address old new))
    ⊎ NoLink why name address out old new
    ⊎ NoReader why name address out old new before now
    ⊎ IsAttended (Err (why, name)) program address key ask out old new
