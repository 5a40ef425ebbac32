use Rattle.dp_grammar.proofs.OneSymbol.{one_exact}
use Rattle.dp_grammar.proofs.laws.one_symbol_is_read.Goals as goal

pub returns : goal.returns
returns g c = one_exact
