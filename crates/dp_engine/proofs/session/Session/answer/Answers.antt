use Rattle.dp_engine.proofs.RefusalLaws.{answered_by_code}
use Rattle.dp_engine.proofs.session.Session.answer.Goals as goal

pub returns-in-Ok-clause-ok : goal.returns-in-Ok-clause-ok
returns-in-Ok-clause-ok g c = rw c.in-Ok.is at c.answer_line.ensures.ok

pub returns-in-Ok-clause-refused : goal.returns-in-Ok-clause-refused
returns-in-Ok-clause-refused g c =
    rw c.in-Ok.is at (answered_by_code c.args.self.now c.answer_line.new.self c.args.line.now c.answer_line.result
    c.answer_line.ensures.ok)
