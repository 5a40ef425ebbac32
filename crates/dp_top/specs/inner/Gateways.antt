-- What the code tells of a gateway over a program.
use Rattle.std.specs.Prelude.{◌≡◌, ◌⊎◌, ℕ, List, Result, Ok, Err, MatchResult}
use Rattle.dp_dap.specs.Service.{Serves}
use Rattle.dp_engine.specs.declared.service.Served.{Served}
use Rattle.dp_outside.specs.Changes.{Change}
use Rattle.dp_top.specs.declared.failures.Failure.{Failure}
use Rattle.dp_top.specs.declared.failures.Failure.TheVariants as failure
use Rattle.dp_top.specs.declared.failures.Refused.{Refused}
use Rattle.dp_top.specs.Talk.{EndReport, IsIdle, judged}
use Rattle.dp_tree.specs.declared.bundle.Bundle.{Bundle}
use Rattle.dp_words.specs.Words.{Invocation}

-- a gateway over this program was served, and this is reported of its end
pub record IsGatewayServed (report : EndReport) (program : Bundle) (ask : Invocation)
    (input out err : Change) : Type 0 where
  pub served : Served
  pub serves : Serves served program ask.bound input out err
  pub reported : judged ask served ≡ report

-- one failed so, or memory ran out before it began
abbrev pub IsGatewayUnserved : Failure → List ℕ → Bundle → Invocation → Change → Change → Change
    → Type 0
IsGatewayUnserved why name program ask input out err =
    ((why ≡ failure.Memory) × IsIdle input out err)
    ⊎ IsGatewayServed (Err (why, name)) program ask input out err

-- what a result tells of it
abbrev pub GatewayEnds : Result ℕ Refused → Bundle → Invocation → Change → Change → Change → Type 0
GatewayEnds result program ask input out err =
    MatchResult result (λ status. IsGatewayServed (Ok status) program ask input out err)
    (λ why. IsGatewayUnserved why.failure why.name.now program ask input out err)
