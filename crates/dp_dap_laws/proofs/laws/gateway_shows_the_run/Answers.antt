use Rattle.dp_dap_laws.proofs.Shown.{shows_run}
use Rattle.dp_dap_laws.proofs.laws.gateway_shows_the_run.Goals as goal

pub returns : goal.returns
returns c = λ bundle bound bodies. shows_run bundle bound bodies
