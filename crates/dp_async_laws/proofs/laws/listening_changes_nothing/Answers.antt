use Rattle.dp_async_laws.proofs.Runs.{heard_alone}
use Rattle.dp_async_laws.proofs.laws.listening_changes_nothing.Goals as goal

pub returns : goal.returns
returns c = λ bundle bound log done ended state rest heard none. heard_alone bundle bound heard none
