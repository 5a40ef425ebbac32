use Rattle.dp_engine.proofs.session.Session.tell.Goals as goal

pub returns-in-Ok-clause-ok : goal.returns-in-Ok-clause-ok
returns-in-Ok-clause-ok g c = rw c.in-Ok.is at c.tell_line.ensures.ok
