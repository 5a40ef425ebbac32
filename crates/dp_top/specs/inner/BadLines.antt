-- Why bytes are no script or no list of events, as the code tells it.
use Rattle.std.specs.Prelude.{◌≡◌, ◌⊎◌, ℕ, Bool, true, false, List, [], ⊤}
use Rattle.dp_program.specs.Programs.{Files}
use Rattle.dp_top.specs.declared.failures.Failure.{Failure}
use Rattle.dp_top.specs.declared.failures.Failure.TheVariants as failure
use Rattle.dp_top.specs.Lines.{IsBadAt, Unread}

-- why bytes are none, or memory ran out
abbrev pub AreNone : (List ℕ → ℕ → Type 0) → Failure → List ℕ → List ℕ → Type 0
AreNone first (failure.Script line) name bytes = (name ≡ []) × IsBadAt first bytes line
AreNone first failure.Memory name bytes = ⊤
AreNone first other name bytes = ⊥

-- why there is none, or memory ran out
abbrev pub UnreadSo : (List ℕ → ℕ → Type 0)
    → Failure → List ℕ → List ℕ → Files → ℕ → ℕ → Type 0
UnreadSo first why name file files before after =
    (why ≡ failure.Memory) ⊎ Unread first why name file files before after

-- whether a line of it is refused
abbrev pub is_bad_line : Failure → Bool
is_bad_line (failure.Script line) = true
is_bad_line other = false
