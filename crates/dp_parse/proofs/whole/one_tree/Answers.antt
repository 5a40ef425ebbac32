use Rattle.dp_parse.proofs.FileVerdicts.{one_file, one_expression}
use Rattle.dp_parse.proofs.whole.one_tree.Goals as goal

pub returns-clause-files : goal.returns-clause-files
returns-clause-files c = one_file

pub returns-clause-expressions : goal.returns-clause-expressions
returns-clause-expressions c = one_expression
