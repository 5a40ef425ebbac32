use Rattle.std.proofs.Common.{ap, ◌∙◌}
use Rattle.dp_engine.proofs.session.Session.phase.Goals as goal

pub returns : goal.returns
returns c = c.phase.ensures ∙ ap (λ k. k.phase) c.self.view_is
