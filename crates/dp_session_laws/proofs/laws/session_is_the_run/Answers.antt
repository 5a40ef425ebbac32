use Rattle.dp_wire.specs.Frames.{commands_in}
use Rattle.dp_session_laws.proofs.WatchedRuns.{is_run}
use Rattle.dp_session_laws.proofs.laws.session_is_the_run.Goals as goal

pub returns-clause-commands : goal.returns-clause-commands
returns-clause-commands c = λ bundle bound commands. is_run bundle bound commands

pub returns-clause-bytes : goal.returns-clause-bytes
returns-clause-bytes c = λ bundle bound bytes. is_run bundle bound (commands_in bytes)
