use Rattle.std.proofs.Common.{◌≡◌, ◌+◌, ◌-◌, ◌≤◌, length, drop}
use Rattle.dp_lexer.specs.inner.Lexer.{longer, body_len}
use Rattle.dp_lexer.proofs.quotes.body_len.Given as goal

abbrev pub invariant-loop-n : goal.invariant-loop-n
invariant-loop-n l = (longer l.n (body_len l.quote (drop l.n l.z)) ≡ body_len l.quote l.z) × (l.n ≤ length l.z + 1)

abbrev pub decreases-loop-n : goal.decreases-loop-n
decreases-loop-n l = length l.z - l.n
