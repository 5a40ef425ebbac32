use Rattle.std.proofs.Common.{◌≡◌, ℕ, List}
use Rattle.dp_analysis.specs.Still.{is_named}
use Rattle.dp_analysis.specs.Quiet.{is_loud}
use Rattle.dp_analysis.proofs.loud.loud_names.Given as goal

-- so many walks were made
abbrev pub invariant-loop-walk : goal.invariant-loop-walk
invariant-loop-walk l = (name : List ℕ) → is_named l.loud name ≡ is_loud l.lines l.bundle l.walk name
