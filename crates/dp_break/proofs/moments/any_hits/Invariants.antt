use Rattle.std.proofs.Common.{◌≡◌, false, take}
use Rattle.std.specs.List.{list_any}
use Rattle.dp_break.specs.Hits.{hits}
use Rattle.dp_break.proofs.moments.any_hits.Given as goal

abbrev pub invariant-loop-at : goal.invariant-loop-at
invariant-loop-at l =
    list_any (hits l.bundle (l.moment, l.state)) (take l.at l.held) ≡ false
