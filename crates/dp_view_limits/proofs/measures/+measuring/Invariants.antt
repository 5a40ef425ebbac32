use Rattle.std.proofs.Common.{◌≡◌, ◌+◌, ◌-◌, ◌*◌, take, drop}
use Rattle.std.specs.Prelude.{sum_by}
use Rattle.dp_view_limits.specs.inner.Sizes.{entries_size, entry_size}
use Rattle.dp_view_limits.proofs.measures.+measuring.Given as goal

abbrev pub decreases-after_nested : goal.decreases-after_nested
decreases-after_nested l = 5 * l.levels + 0

abbrev pub decreases-after_value : goal.decreases-after_value
decreases-after_value l = 5 * l.levels + 1

abbrev pub decreases-after_entry : goal.decreases-after_entry
decreases-after_entry l = 5 * l.levels + 2

abbrev pub decreases-after_place : goal.decreases-after_place
decreases-after_place l = 5 * l.levels + 3

abbrev pub decreases-after_entries : goal.decreases-after_entries
decreases-after_entries l = 5 * l.levels + 4

abbrev pub invariant-after_entries-loop-at : goal.invariant-after_entries-loop-at
invariant-after_entries-loop-at l =
    l.left - sum_by (entry_size l.p (entries_size l.p l.levels) l.full) (drop l.start (take l.end l.array.pairs))
    ≡ l.rest - sum_by (entry_size l.p (entries_size l.p l.levels) l.full) (drop l.at (take l.end l.array.pairs))
