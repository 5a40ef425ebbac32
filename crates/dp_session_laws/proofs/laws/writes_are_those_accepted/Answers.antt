use Rattle.dp_session_laws.proofs.ReplyLaws.{keeps_no_other, keeps_write}
use Rattle.dp_session_laws.proofs.laws.writes_are_those_accepted.Goals as goal

pub returns-clause-accepted : goal.returns-clause-accepted
returns-clause-accepted c = λ state bytes line command asked taken is.
    keeps_write state bytes line command taken asked is

pub returns-clause-none_else : goal.returns-clause-none_else
returns-clause-none_else c = λ state bytes none. keeps_no_other state bytes none
