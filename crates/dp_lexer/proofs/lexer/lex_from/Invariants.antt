use Rattle.std.proofs.Common.{length}
use Rattle.dp_lexer.specs.inner.Lexed.{IsLexed}
use Rattle.dp_lexer.proofs.lexer.lex_from.Given as goal

abbrev pub invariant-loop-rest : goal.invariant-loop-rest
invariant-loop-rest l = IsLexed l.at l.bytes l.tokens.items l.line l.rest

abbrev pub decreases-loop-rest : goal.decreases-loop-rest
decreases-loop-rest l = length l.rest
