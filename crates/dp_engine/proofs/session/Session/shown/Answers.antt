use Rattle.std.proofs.Common.{ap, length, sym, ◌∙◌}
use Rattle.dp_engine.proofs.TurnLaws.{output_is}
use Rattle.dp_engine.proofs.session.Session.shown.Goals as goal

pub returns-clause-shown : goal.returns-clause-shown
returns-clause-shown c =
    c.len.ensures ∙ ap (λ p. length p.output) c.in_ok-program.ensures.state
    ∙ ap length (sym (output_is c.args.self.now))
