use Rattle.std.proofs.Common.{◌≡◌, drop}
use Rattle.dp_value.specs.Comparison.{identical_entries}
use Rattle.dp_value.specs.Data.{entries_of}
use Rattle.dp_value.proofs.identity.+comparing.Given as goal

abbrev pub invariant-same_columns-loop-at : goal.invariant-same_columns-loop-at
invariant-same_columns-loop-at l =
    identical_entries (entries_of l.a.pairs) (entries_of l.b.pairs) ≡ identical_entries
    (entries_of (drop l.at l.a.pairs)) (entries_of (drop l.at l.b.pairs))
