use Rattle.std.proofs.Common.{◌≡◌, ◌+◌, length}
use Rattle.dp_lexer.specs.inner.Lexer.{line_len}
use Rattle.dp_lexer.proofs.comments.line_len.Given as goal

abbrev pub invariant-loop-rest : goal.invariant-loop-rest
invariant-loop-rest l = (l.n + line_len l.rest ≡ line_len l.z) × (l.n + length l.rest ≡ length l.z)

abbrev pub decreases-loop-rest : goal.decreases-loop-rest
decreases-loop-rest l = length l.rest
