use Rattle.dp_async_laws.proofs.Runs.{heard_run}
use Rattle.dp_async_laws.proofs.laws.heard_is_the_run.Goals as goal

pub returns : goal.returns
returns c = λ bundle bound log done ended state rest heard. heard_run bundle bound heard
