use Rattle.std.proofs.Common.{◌≡◌, true, take}
use Rattle.dp_grammar.specs.Lines.{has_no_blank}
use Rattle.dp_events.proofs.spelling.first_blank.Given as goal

abbrev pub invariant-loop-at : goal.invariant-loop-at
invariant-loop-at l = has_no_blank (take l.at l.bytes) ≡ true
