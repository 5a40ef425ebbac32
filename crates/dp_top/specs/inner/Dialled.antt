-- What the code tells of a session over a program and a link that is dialled.
use Rattle.std.specs.Prelude.{◌≡◌, ◌⊎◌, ℕ, List, [], Ok, Err}
use Rattle.dp_outside.specs.Changes.{Change, IsUntouched}
use Rattle.dp_tree.specs.declared.bundle.Bundle.{Bundle}
use Rattle.dp_engine.specs.declared.service.Served.{Served}
use Rattle.dp_engine.specs.Service.{Serves}
use Rattle.dp_top.specs.declared.failures.Failure.{Failure}
use Rattle.dp_top.specs.declared.failures.Failure.TheVariants as failure
use Rattle.dp_words.specs.Words.{Address, Invocation}
use Rattle.dp_top.specs.Engine.{judged}
use Rattle.dp_top.specs.Links.{IsDialled, IsUndialled}
use Rattle.dp_top.specs.Seen.{Net}

-- a session over this program and a link to this address went well, with this status
pub record EngagedSo (status : ℕ) (program : Bundle) (address : Address) (key : List ℕ)
    (ask : Invocation)
    (out : Change) (old new : Net) : Type 0 where
  pub served : Served
  pub source : Change
  pub sink : Change
  pub dialled : IsDialled address source sink old new
  pub serves : Serves served program ask.bound key source sink out
  pub reported : judged ask served ≡ Ok status

pub record BrokenSo (why : Failure) (name : List ℕ) (program : Bundle) (address : Address)
    (key : List ℕ) (ask : Invocation) (out : Change) (old new : Net) : Type 0 where
  pub served : Served
  pub source : Change
  pub sink : Change
  pub dialled : IsDialled address source sink old new
  pub serves : Serves served program ask.bound key source sink out
  pub reported : judged ask served ≡ Err (why, name)

-- the link came back unused
pub record CameBack (address : Address) (out : Change) (old new : Net) : Type 0 where
  pub source : Change
  pub sink : Change
  pub source_stays : IsUntouched source
  pub sink_stays : IsUntouched sink
  pub dialled : IsDialled address source sink old new
  pub out_stays : IsUntouched out

-- the dial failed
pub record NoLink (why : Failure) (name : List ℕ) (address : Address) (out : Change)
    (old new : Net) : Type 0 where
  pub undialled : IsUndialled address old new
  pub is_why : why ≡ failure.Network
  pub is_name : name ≡ []
  pub out_stays : IsUntouched out

-- one failed so: memory ran out before it began, the dial failed, or it ended by this failure
abbrev pub UnengagedSo : Failure → List ℕ → Bundle → Address → List ℕ → Invocation → Change → Net
    → Net
    → Type 0
UnengagedSo why name program address key ask out old new =
    ((why ≡ failure.Memory) × CameBack address out old new)
    ⊎ NoLink why name address out old new
    ⊎ BrokenSo why name program address key ask out old new
