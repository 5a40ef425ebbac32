use Rattle.std.proofs.Common.{◌≡◌, ◌-◌, ◌≤◌, length, drop}
use Rattle.dp_lexer.specs.inner.Lexer.{ahead, doubled}
use Rattle.dp_lexer.proofs.quotes.double.Given as goal

abbrev pub invariant-loop-n : goal.invariant-loop-n
invariant-loop-n l = (ahead l.bytes.items l.n (doubled 0 (drop l.n l.body)) ≡ doubled 0 l.body) × (l.n ≤ length l.body)

abbrev pub decreases-loop-n : goal.decreases-loop-n
decreases-loop-n l = length l.body - l.n
