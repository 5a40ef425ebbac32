use Rattle.dp_view.proofs.Written.{full_name_read}
use Rattle.dp_view.proofs.laws.full_names_are_read_back.Goals as goal

pub returns : goal.returns
returns c = λ id path has. full_name_read id path has
