-- What the code tells of a session over a program.
use Rattle.std.specs.Prelude.{◌≡◌, ◌⊎◌, ℕ, List, Result, Ok, Err}
use Rattle.dp_outside.specs.Changes.{Change}
use Rattle.dp_tree.specs.declared.bundle.Bundle.{Bundle}
use Rattle.dp_engine.specs.declared.service.Served.{Served}
use Rattle.dp_engine.specs.Service.{Serves}
use Rattle.dp_top.specs.declared.failures.Failure.{Failure}
use Rattle.dp_top.specs.declared.failures.Failure.TheVariants as failure
use Rattle.dp_top.specs.declared.failures.Refused.{Refused}
use Rattle.dp_words.specs.Words.{Invocation}
use Rattle.dp_top.specs.Talk.{EndReport, IsIdle, judged_by}

-- what the code tells
abbrev pub reported_in : Result ℕ Refused → EndReport
reported_in (Ok status) = Ok status
reported_in (Err why) = Err (why.failure, why.name.now)

-- a session over this program went well, with this status; a fault of the link's sink is the first
-- failure
pub record ServedSo (unsent : Failure) (status : ℕ) (program : Bundle) (key : List ℕ)
    (ask : Invocation)
    (input out err : Change) : Type 0 where
  pub served : Served
  pub serves : Serves served program ask.bound key input out err
  pub reported : judged_by unsent ask served.outcome served.end ≡ Ok status

pub record EndedSo (unsent why : Failure) (name : List ℕ) (program : Bundle) (key : List ℕ)
    (ask : Invocation) (input out err : Change) : Type 0 where
  pub served : Served
  pub serves : Serves served program ask.bound key input out err
  pub reported : judged_by unsent ask served.outcome served.end ≡ Err (why, name)

-- one failed so, or memory ran out before it began
abbrev pub UnservedSo : Failure → Failure → List ℕ → Bundle → List ℕ → Invocation
    → Change → Change → Change → Type 0
UnservedSo unsent why name program key ask input out err =
    ((why ≡ failure.Memory) × IsIdle input out err)
    ⊎ EndedSo unsent why name program key ask input out err
