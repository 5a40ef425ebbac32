-- A program exits with one of 200 statuses, whatever is written at its moments.
use Rattle.std.proofs.Common.{◌≡◌, ℕ, ◌≤◌, List, length, subst}
use Rattle.dp_tree.specs.declared.bundle.Bundle.{Bundle}
use Rattle.dp_state.specs.declared.moments.Outcome.TheVariants as way
use Rattle.dp_meaning.specs.declared.writes.NumberedWrite.{NumberedWrite}
use Rattle.dp_meaning.specs.Trace.{outcome, program_trace}
use Rattle.dp_meaning.proofs.Alike.{CanEnd}
use Rattle.dp_meaning.proofs.Traces.{can-end}

pub exit_small : (bundle : Bundle) (bound : ℕ) (writes : List NumberedWrite) (status : ℕ)
    → outcome bundle bound writes ≡ way.Exit status
    → status ≤ 199
exit_small bundle bound writes status is =
    subst (CanEnd bound (length (program_trace bundle bound writes).moments)) is (can-end bundle bound writes)
