use Rattle.dp_parse.proofs.ExpressionLaws.{expression_told}
use Rattle.dp_parse.proofs.whole.expressions_are_exact.Goals as goal

pub returns : goal.returns
returns c = expression_told
