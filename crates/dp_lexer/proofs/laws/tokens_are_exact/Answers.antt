use Rattle.dp_lexer.proofs.TokenLaws.{tokens_told}
use Rattle.dp_lexer.proofs.laws.tokens_are_exact.Goals as goal

pub returns : goal.returns
returns c = tokens_told
