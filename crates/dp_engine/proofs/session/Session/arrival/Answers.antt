use Rattle.std.proofs.Common.{ap, refl}
use Rattle.dp_engine.proofs.Departures.{arrived_is}
use Rattle.dp_engine.proofs.session.Session.arrival.Goals as goal

pub returns-clause-ok : goal.returns-clause-ok
returns-clause-ok c =
    let s = c.self.inside in
    arrived_is c.args.self.now s.stdout c.args.going.now.to.command c.args.going.now.to.id c.args.going.now.shown
    c.in_ok-written.written.now _ c.in_ok-turn.turn c.give.result (ap (λ k. k.stdout) c.self.view_is)
    c.in_ok-written.ensures.written (rw (← c.self.view_is) refl) c.in_ok-turn.ensures c.give.ensures.ok
