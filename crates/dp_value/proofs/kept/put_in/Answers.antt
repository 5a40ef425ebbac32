use Rattle.std.proofs.Common.{◌∙◌}
use Rattle.dp_value.proofs.KeyLemmas.{inserted}
use Rattle.dp_value.proofs.kept.put_in.Goals as goal

pub returns-clause-ok : goal.returns-clause-ok
returns-clause-ok c = c.in_ok-insert.ensures.keys ∙ inserted c.args.keys.now.keys c.args.key c.requires
