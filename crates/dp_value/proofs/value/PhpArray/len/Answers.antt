use Rattle.dp_value.proofs.BehindLemmas.{table_of_nothing}
use Rattle.dp_value.proofs.value.PhpArray.len.Goals as goal

pub returns-in-None-clause-table : goal.returns-in-None-clause-table
returns-in-None-clause-table c = table_of_nothing c.self.inside c.args.self.now c.in-None.is c.self.view_is
