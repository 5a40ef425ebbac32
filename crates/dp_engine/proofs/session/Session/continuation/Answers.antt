use Rattle.std.proofs.Common.{ap, sym, ◌∙◌}
use Rattle.dp_engine.specs.Passes.{going_in}
use Rattle.dp_engine.proofs.Departures.{read_departs, refused_departs}
use Rattle.dp_engine.proofs.session.Session.continuation.Goals as goal

pub returns-in-Ok : goal.returns-in-Ok
returns-in-Ok c =
    c.going_in.ensures ∙ ap (λ k. going_in k.phase c.in-Ok.command.request) c.self.view_is
    ∙ read_departs c.args.self.now c.args.line.now c.in-Ok.command
    (rw c.in-Ok.is at (c.read_command.ensures c.args.self.now
    (sym (c.phase.ensures ∙ ap (λ k. k.phase) c.self.view_is))))

pub returns-in-Err-Code : goal.returns-in-Err-Code
returns-in-Err-Code c =
    refused_departs c.args.self.now c.args.line.now _
    (rw (c.in-Err-Code.is, c.in-Err-Code.field-0-is) at (c.read_command.ensures c.args.self.now
    (sym (c.phase.ensures ∙ ap (λ k. k.phase) c.self.view_is))))
