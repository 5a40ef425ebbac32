use Rattle.std.proofs.Common.{◌≡◌, ◌≤◌, take}
use Rattle.dp_lexer.specs.Bytes.{value_in}
use Rattle.dp_lexer.specs.Pieces.{widest}
use Rattle.dp_lexer.proofs.numbers.value_of.Given as goal

abbrev pub invariant-loop-d : goal.invariant-loop-d
invariant-loop-d l = (l.value ≡ value_in l.base (take l.d-index l.digits)) × (l.value ≤ widest)
