use Rattle.std.proofs.Common.{ap, drop, sym, ◌∙◌}
use Rattle.dp_engine.proofs.TurnLaws.{output_is}
use Rattle.dp_engine.proofs.session.Session.written_past.Goals as goal

pub returns-clause-written : goal.returns-clause-written
returns-clause-written c =
    c.tail.ensures ∙ ap (drop c.args.shown) (c.as_slice.ensures
    ∙ ap (λ p. p.output) c.in_ok-program.ensures.state ∙ sym (output_is c.args.self.now))
