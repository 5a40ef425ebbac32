use Rattle.std.proofs.Common.{◌≡◌, length, map, take}
use Rattle.dp_break.specs.Hits.{hits}
use Rattle.dp_break.proofs.moments.mark.Given as goal

abbrev pub invariant-loop-at : goal.invariant-loop-at
invariant-loop-at l =
    (take l.at l.marks.items ≡ map (hits l.bundle (l.moment, l.state)) (take l.at l.held))
    × (length l.marks.items ≡ length l.initial.marks.items)
