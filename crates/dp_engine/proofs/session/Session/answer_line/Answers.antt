use Rattle.dp_engine.proofs.SentPackets.{answer_read}
use Rattle.dp_engine.proofs.session.Session.answer_line.Goals as goal

pub returns-clause-ok : goal.returns-clause-ok
returns-clause-ok g c =
    answer_read c.args.self.now c.answer_read.new.self c.args.line.now c.in_ok-line.line c.answer_read.result
    c.in_ok-line.ensures.value c.answer_read.ensures.ok
