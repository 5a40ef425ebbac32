use Rattle.std.proofs.Common.{ap, sym, ◌∙◌}
use Rattle.dp_engine.proofs.ResponseSizes.{command_short}
use Rattle.dp_engine.proofs.TurnLaws.{turn_accepted, turn_refused, writes_in_break}
use Rattle.dp_engine.proofs.session.Session.turn_on.Goals as goal

pub perform-requires-clause-short : goal.perform-requires-clause-short
perform-requires-clause-short g c =
    let asks = rw c.in-Ok.is at (c.read_command.ensures c.args.self.now
    (sym (c.phase.ensures ∙ ap (λ k. k.phase) c.self.view_is))) in
    command_short c.args.line.now c.in-Ok.command c.requires asks.1

pub perform-requires-clause-timely : goal.perform-requires-clause-timely
perform-requires-clause-timely g c =
    writes_in_break c.args.self.now c.args.line.now c.in-Ok.command
    (rw c.in-Ok.is at (c.read_command.ensures c.args.self.now
    (sym (c.phase.ensures ∙ ap (λ k. k.phase) c.self.view_is))))

pub returns-in-Ok-clause-turn : goal.returns-in-Ok-clause-turn
returns-in-Ok-clause-turn g c =
    turn_accepted c.args.self.now c.perform.new.self c.args.line.now c.in-Ok.command c.in_ok-to.to.command
    c.in_ok-to.to.id c.perform.result
    c.in_ok-to.ensures.command c.in_ok-to.ensures.id
    (rw c.in-Ok.is at (c.read_command.ensures c.args.self.now
    (sym (c.phase.ensures ∙ ap (λ k. k.phase) c.self.view_is))))
    c.perform.ensures.turn

pub returns-in-Err-Code-clause-turn : goal.returns-in-Err-Code-clause-turn
returns-in-Err-Code-clause-turn g c =
    turn_refused c.args.self.now c.args.line.now c.in-Err-Code.code c.in_ok-to.to.command c.in_ok-to.to.id
    c.refuse.result
    c.in_ok-to.ensures.command c.in_ok-to.ensures.id
    (rw (c.in-Err-Code.is, c.in-Err-Code.field-0-is) at (c.read_command.ensures c.args.self.now
    (sym (c.phase.ensures ∙ ap (λ k. k.phase) c.self.view_is)))) c.refuse.ensures
