use Rattle.std.proofs.Common.{refl}
use Rattle.dp_engine.proofs.session.Session.departure.Goals as goal

pub returns-in-Some-clause-departs : goal.returns-in-Some-clause-departs
returns-in-Some-clause-departs g c = (rw c.in-Some.is at c.in_ok-found.ensures.going, refl)

pub returns-in_ok-answer-in-None-clause-departs : goal.returns-in_ok-answer-in-None-clause-departs
returns-in_ok-answer-in-None-clause-departs g c =
    (rw c.in-None.is at c.in_ok-found.ensures.going, c.in_ok-answer-in-None.ensures.ok)
