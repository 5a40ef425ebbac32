use Rattle.std.proofs.Common.{◌≡◌, ◌-◌, ◌≤◌, ◌++◌, length, drop}
use Rattle.dp_lexer.specs.Quotes.{single_value}
use Rattle.dp_lexer.proofs.quotes.single.Given as goal

abbrev pub invariant-loop-n : goal.invariant-loop-n
invariant-loop-n l = (l.bytes.items ++ single_value (drop l.n l.body) ≡ single_value l.body) × (l.n ≤ length l.body)

abbrev pub decreases-loop-n : goal.decreases-loop-n
decreases-loop-n l = length l.body - l.n
