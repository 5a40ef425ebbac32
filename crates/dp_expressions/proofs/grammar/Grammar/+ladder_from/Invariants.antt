use Rattle.std.proofs.Common.{length}
use Rattle.dp_expressions.proofs.grammar.Grammar.+ladder_from.Given as goal

abbrev pub decreases-ladder_from : goal.decreases-ladder_from
decreases-ladder_from g l = length l.ranks.now
