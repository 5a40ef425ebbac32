use Rattle.dp_wire.specs.Frames.{commands_in}
use Rattle.dp_session_laws.proofs.WatchedRuns.{own_is_all, watched_run}
use Rattle.dp_session_laws.proofs.laws.watching_changes_nothing.Goals as goal

pub returns-clause-run_with : goal.returns-clause-run_with
returns-clause-run_with c = λ bundle bound commands none. watched_run bundle bound commands none

pub returns-clause-own_with : goal.returns-clause-own_with
returns-clause-own_with c = λ bundle bound commands never. own_is_all bundle bound commands never

pub returns-clause-run : goal.returns-clause-run
returns-clause-run c = λ bundle bound bytes none. watched_run bundle bound (commands_in bytes) none

pub returns-clause-own : goal.returns-clause-own
returns-clause-own c = λ bundle bound bytes never. own_is_all bundle bound (commands_in bytes) never
