use Rattle.std.proofs.Common.{subst}
use Rattle.std.specs.Prelude.{IfOk}
use Rattle.dp_engine.specs.Passes.{Departs}
use Rattle.dp_engine.proofs.session.Session.depart_line.Goals as goal

pub returns-clause-departs : goal.returns-clause-departs
returns-clause-departs g c =
    subst (λ l. IfOk c.departure.result (Departs c.args.self.now l c.departure.new.self)) c.in_ok-line.ensures.value
    c.departure.ensures.departs
