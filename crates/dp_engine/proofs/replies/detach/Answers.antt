use Rattle.std.proofs.Common.{Some, subst}
use Rattle.dp_packet.specs.declared.packet.Response.{Response}
use Rattle.dp_engine.specs.declared.session.SessionEnd.TheVariants.{Detached}
use Rattle.dp_engine.specs.inner.Turns.{Responds}
use Rattle.dp_engine.proofs.replies.detach.Goals as goal

pub returns : goal.returns
returns c =
    subst (λ (r : Response). Responds r (Some Detached) c.turn_with.result) c.in_ok-response.ensures.value
    c.turn_with.ensures
