use Rattle.std.proofs.Common.{◌≡◌, ◌+◌, length}
use Rattle.dp_lexer.specs.inner.Lexer.{longer, close_len}
use Rattle.dp_lexer.proofs.comments.close_len.Given as goal

abbrev pub invariant-loop-rest : goal.invariant-loop-rest
invariant-loop-rest l = (longer l.n (close_len l.rest) ≡ close_len l.z) × (l.n + length l.rest ≡ length l.z)

abbrev pub decreases-loop-rest : goal.decreases-loop-rest
decreases-loop-rest l = length l.rest
