use Rattle.dp_outside.proofs.NameLaws.{name_by}
use Rattle.dp_outside.proofs.graphic_names.is_name.Goals as goal

pub returns-clause-name : goal.returns-clause-name
returns-clause-name c = name_by c.args.most c.args.bytes.now c.passes.result c.passes.ensures
