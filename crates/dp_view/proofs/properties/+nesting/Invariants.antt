use Rattle.std.proofs.Common.{◌≡◌, ◌+◌, ◌*◌, ◌++◌, take, drop}
use Rattle.dp_view.specs.inner.Keyed.{HoldsWithin, IsKeyed}
use Rattle.dp_view.specs.inner.Additions.{properties}
use Rattle.dp_view.proofs.properties.+nesting.Given as goal

abbrev pub decreases-nested : goal.decreases-nested
decreases-nested l = 5 * l.levels + 0

abbrev pub decreases-shape : goal.decreases-shape
decreases-shape l = 5 * l.levels + 1

abbrev pub decreases-entry : goal.decreases-entry
decreases-entry l = 5 * l.levels + 2

abbrev pub decreases-put_entry : goal.decreases-put_entry
decreases-put_entry l = 5 * l.levels + 3

abbrev pub decreases-entries : goal.decreases-entries
decreases-entries l = 5 * l.levels + 4

abbrev pub invariant-entries-loop-at : goal.invariant-entries-loop-at
invariant-entries-loop-at l = record {
  made :
      l.made.items ++ properties l.p l.levels l.full (drop l.at (take l.end l.array.pairs))
      ≡ properties l.p l.levels l.full (drop l.start (take l.end l.array.pairs));
  keyed : HoldsWithin (IsKeyed l.p.children 0 l.levels) l.array.pairs l.start l.at;
}
