use Rattle.std.proofs.Common.{ap}
use Rattle.dp_engine.proofs.SentPackets.{given_is}
use Rattle.dp_engine.proofs.session.Session.answer_read.Goals as goal

pub returns-clause-ok : goal.returns-clause-ok
returns-clause-ok g c =
    given_is c.args.self.now c.turn.new.self _ c.self.inside.stdout c.in_ok-shown.shown c.in_ok-written.written.now
    c.in_ok-turn.turn c.give.result (ap (λ k. k.stdout) c.self.view_is) c.in_ok-shown.ensures.shown
    c.in_ok-written.ensures.written c.in_ok-turn.ensures.turn c.give.ensures.ok
