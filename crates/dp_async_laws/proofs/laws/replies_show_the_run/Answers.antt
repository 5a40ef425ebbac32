use Rattle.dp_async_laws.proofs.Counts.{counted}
use Rattle.dp_async_laws.proofs.Runs.{stands}
use Rattle.dp_async_laws.proofs.laws.replies_show_the_run.Goals as goal
use Rattle.dp_session_laws.proofs.ReplyLaws.{shows_program}

pub returns-clause-in_run : goal.returns-clause-in_run
returns-clause-in_run c = λ bundle bound log done s heard. stands bundle bound heard

pub returns-clause-counted : goal.returns-clause-counted
returns-clause-counted c = λ bundle bound log done s heard. counted bundle bound heard

pub returns-clause-shown : goal.returns-clause-shown
returns-clause-shown c = λ bundle bound log done state moments held heard bytes rest begins line command look taken is.
    (stands bundle bound heard, shows_program state bytes line command taken look is)
