use Rattle.dp_async_laws.proofs.Looks.{looks_are}
use Rattle.dp_async_laws.proofs.laws.looks_are_moments.Goals as goal

pub returns : goal.returns
returns c = λ bundle bound log done s heard halt e. looks_are heard halt e
