use Rattle.dp_conversation.proofs.NextAnswerLaws.{feeding}
use Rattle.dp_conversation.proofs.laws.feeding_goes_on.Goals as goal

pub returns : goal.returns
returns g c = λ bytes more. feeding g.A.Responder.step c.args.session.now bytes more
