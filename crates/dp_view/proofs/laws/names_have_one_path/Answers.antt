use Rattle.dp_view.proofs.Again.{path_again}
use Rattle.dp_view.proofs.Found.{path_found}
use Rattle.dp_view.proofs.laws.names_have_one_path.Goals as goal

pub returns : goal.returns
returns c = λ bytes path. (path_again bytes path, path_found bytes path)
