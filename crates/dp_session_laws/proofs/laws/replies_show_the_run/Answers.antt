use Rattle.dp_wire.specs.Frames.{commands_in}
use Rattle.dp_session_laws.proofs.ReplyLaws.{shows_program}
use Rattle.dp_session_laws.proofs.WatchedRuns as law
use Rattle.dp_session_laws.proofs.laws.replies_show_the_run.Goals as goal

pub returns-clause-stands_with : goal.returns-clause-stands_with
returns-clause-stands_with c = λ bundle bound commands. law.stands bundle bound commands

pub returns-clause-stands : goal.returns-clause-stands
returns-clause-stands c = λ bundle bound bytes. law.stands bundle bound (commands_in bytes)

pub returns-clause-shown : goal.returns-clause-shown
returns-clause-shown c = λ state bytes line command asked taken is.
    shows_program state bytes line command taken asked is
