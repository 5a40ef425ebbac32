use Rattle.dp_file_uris.proofs.Uris.{read_back}
use Rattle.dp_file_uris.proofs.laws.file_uris_are_read_back.Goals as goal

pub returns : goal.returns
returns c = λ bundle number file names small at apart. read_back bundle number file names small at apart
