-- The command `dap`: what it does, and why it fails.
use Rattle.std.specs.Prelude.{◌≡◌, ◌⊎◌, ℕ, List, Ok, Err}
use Rattle.dp_tree.specs.declared.bundle.Bundle.{Bundle}
use Rattle.dp_dap.specs.Service.{Serves}
use Rattle.dp_engine.specs.declared.service.Served.{Served}
use Rattle.dp_program.specs.Programs.{NamesMake}
use Rattle.dp_top.specs.declared.failures.Failure.{Failure}
use Rattle.dp_top.specs.declared.failures.Failure.TheVariants as failure
use Rattle.dp_top.specs.Seen.{Seen, changed}
use Rattle.dp_top.specs.Talk.{AreIdle, IsUnserved, judged}
use Rattle.dp_words.specs.Words.{Invocation}

-- the gateway over the program was served so; the program's output behind its end goes to `err`
pub record IsServed (served : Served) (ask : Invocation) (old new : Seen) : Type 0 where
  pub program : Bundle
  pub made : NamesMake old.shelf.files ask.names (Ok program)
  pub serves : Serves served program ask.bound
      (changed old.input new.input) (changed old.out new.out) (changed old.err new.err)

-- it went well, with this status
pub record Daps (status : ℕ) (ask : Invocation) (old new : Seen) : Type 0 where
  pub served : Served
  pub is : IsServed served ask old new
  pub reported : judged ask served ≡ Ok status

-- The gateway was served, and its end is this failure.
pub record EndsSo (why : Failure) (name : List ℕ) (ask : Invocation) (old new : Seen) : Type 0 where
  pub served : Served
  pub is : IsServed served ask old new
  pub reported : judged ask served ≡ Err (why, name)

-- memory ran out before the gateway began, or once it was served, to whatever end
abbrev pub IsStarved : Invocation → Seen → Seen → Type 0
IsStarved ask old new = AreIdle old new ⊎ ((served : Served) × IsServed served ask old new)

-- why it failed
abbrev pub DapFails : Failure → List ℕ → Invocation → Seen → Seen → Type 0
DapFails why name ask old new =
    ((why ≡ failure.Memory) × IsStarved ask old new)
    ⊎ IsUnserved why name ask old new ⊎ EndsSo why name ask old new
