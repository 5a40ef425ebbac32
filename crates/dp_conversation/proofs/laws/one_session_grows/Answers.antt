use Rattle.dp_conversation.proofs.GrowthLaws.{served_goes_on}
use Rattle.dp_conversation.proofs.laws.one_session_grows.Goals as goal

pub returns : goal.returns
returns g c = λ bytes more. served_goes_on g.A.Responder.step c.args.session.now bytes more
